-- `prices::charge` meets its contract: a literal, and each product as it stands. Assumes nothing.
use Rattle.std.proofs.Common.{◌∙◌, rules}
use Rattle.prices.proofs.PriceLaws.{zero_is}
use Rattle.prices.proofs.charge.Goals as goal

pub returns-in-Away : goal.returns-in-Away
returns-in-Away c = zero_is ∙ search rules

pub returns-in-Idle : goal.returns-in-Idle
returns-in-Idle c = rw (c.in-Idle.is, c.nearest_u64_to_f64-symbols.ensures)

pub returns-in-Busy : goal.returns-in-Busy
returns-in-Busy c = rw (c.in-Busy.is, c.nearest_u64_to_f64-symbols.ensures)
