-- `encoding::encode_symbols` meets its contract. Assumes nothing.
use Rattle.std.proofs.Common.{◌≡◌, ℕ, ◌*◌, length, sym, ap, ◌∙◌, arith}
use Rattle.bits.specs.Numerals.{numerals}
use Rattle.bits.proofs.NumeralLaws.{length_numerals, get_or_numerals}
use Rattle.encoding.proofs.EncodingLaws.{written_none, written_more, written_whole}
use Rattle.encoding.proofs.encode_symbols.Goals as goal

pub loop-s-init : goal.loop-s-init
loop-s-init c = written_none c.args.size c.args.data_symbols (numerals c.args.rows.now) c.args.contents.now c.args.stripe.now c.requires.data_whole

pub loop-s-preserved : goal.loop-s-preserved
loop-s-preserved c =
    let args = c.args in
    let s = c.loop-s.s in
    written_more args.size args.data_symbols (numerals args.rows.now) args.contents.now args.stripe.now c.requires.data_whole s c.loop-s.stripe _
    (omega (arith, length_numerals args.rows.now)) c.loop-s.invariant (rw (get_or_numerals args.rows.now s) at c.encode_symbol.ensures)

pub returns : goal.returns
returns c =
    let args = c.args in
    let all : c.loop-s.s ≡ length args.rows.now = omega arith in
    let whole : length args.stripe.now ≡ c.loop-s.s * args.size = c.requires.stripe_whole ∙ sym (ap (λ (n : ℕ). n * args.size) all) in
    c.loop-s.invariant
    ∙ written_whole args.size args.data_symbols (numerals args.rows.now) args.contents.now args.stripe.now c.requires.data_whole c.loop-s.s
    (omega (arith, length_numerals args.rows.now)) (rw whole (omega arith))
