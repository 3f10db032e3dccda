-- `rebuild::rebuild_accepted` meets its contract: its verdict is 31, 32, and its work what the steps make of the stripe. Assumes nothing.
use Rattle.std.proofs.Common.{sym, length}
use Rattle.rebuild.proofs.CallLaws.{each_fits}
use Rattle.rebuild.proofs.rebuild_accepted.Goals as goal

pub run_on_stripe-requires : goal.run_on_stripe-requires
run_on_stripe-requires c = (each_fits c.args.symbols c.args.size (length c.args.stripe.now) _ c.requires.0 (sym c.in_ok-stripe_test.ensures), c.requires.1)
