-- `row_passes::encode_symbol` meets its contract. Assumes nothing.
use Rattle.std.proofs.Common.{ℕ, Option, IfSome, ◌<◌, refl, length, replicate, ap, sym, ◌∙◌, subst, rules, arith}
use Rattle.bits.specs.Numerals.{numeral}
use Rattle.gf2.proofs.SymbolLaws.{length_symbol, symbol_fits}
use Rattle.passes.proofs.StartLaws.{starts_source, starts_both}
use Rattle.row_passes.specs.InnerPasses.{next_or}
use Rattle.row_passes.proofs.GatherLaws.{next_found, gathered_fit}
use Rattle.row_passes.proofs.PassLaws.{SummedTo, none_taken, first_pass, next_pass, all_passed}
use Rattle.row_passes.proofs.encode_symbol.Goals as goal

pub returns-in_default : goal.returns-in_default
returns-in_default c =
    let args = c.args in
    c.fill.ensures.after (λ y same. search rules) ∙ ap (λ (n : ℕ). replicate n 0) c.requires.2
    ∙ none_taken (numeral args.row) args.data_symbols args.size args.contents.now c.requires.1 _
    (next_found (numeral args.row) args.data_symbols 0 _ (omega arith) c.in_default.ensures.first) refl

pub do_pass-requires-clause-sources_fit : goal.do_pass-requires-clause-sources_fit
do_pass-requires-clause-sources_fit c =
    let args = c.args in
    gathered_fit (numeral args.row) args.data_symbols args.size (length args.contents.now) _ _ _ c.requires.0 (omega arith) c.requires.1 c.gather-gathered.ensures.gathered

pub loop-next-init : goal.loop-next-init
loop-next-init c =
    let args = c.args in
    let gathered = c.gather-gathered in
    let first = c.in-Some.first in
    let below : first < args.data_symbols = c.in-Some.ensures.below in
    let alike = length_symbol args.size args.contents.now first (symbol_fits args.size args.data_symbols args.contents.now first c.requires.1 below) ∙ sym c.requires.2 in
    let found = next_found (numeral args.row) args.data_symbols 0 _ (omega arith) c.in-Some.ensures.first in (
      gathered.ensures.below,
      first_pass (numeral args.row) args.data_symbols args.size args.contents.now c.requires.1 first _ _ below gathered.ensures.gathered found _
          (c.do_pass.ensures _ (starts_source _ _ _ alike (λ own other byte made. search rules))),
    )

pub do_pass-requires-in-Some-next-clause-sources_fit :
    goal.do_pass-requires-in-Some-next-clause-sources_fit
do_pass-requires-in-Some-next-clause-sources_fit c =
    let args = c.args in
    let below : c.in-Some-next.first < args.data_symbols = subst (λ (o : Option ℕ). IfSome o (λ next. next < args.data_symbols)) c.in-Some-next.is c.loop-next.invariant.0 in
    gathered_fit (numeral args.row) args.data_symbols args.size (length args.contents.now) _ _ _ c.requires.0 (omega arith) c.requires.1
    c.gather-gathered-in-Some-next.ensures.gathered

pub loop-next-preserved : goal.loop-next-preserved
loop-next-preserved c =
    let args = c.args in
    let gathered = c.gather-gathered-in-Some-next in
    let first = c.in-Some-next.first in
    let below : first < args.data_symbols = subst (λ (o : Option ℕ). IfSome o (λ next. next < args.data_symbols)) c.in-Some-next.is c.loop-next.invariant.0 in
    let so_far =
    subst (λ (o : Option ℕ). SummedTo (numeral args.row) args.data_symbols args.size args.contents.now c.loop-next.target (next_or args.data_symbols o))
    c.in-Some-next.is c.loop-next.invariant.1 in
    let alike =
    length_symbol args.size args.contents.now first (symbol_fits args.size args.data_symbols args.contents.now first c.requires.1 below) ∙ sym so_far.size_kept in (
      gathered.ensures.below,
      next_pass (numeral args.row) args.data_symbols args.size args.contents.now c.requires.1 first _ _ below gathered.ensures.gathered c.loop-next.target so_far _
          (c.do_pass-in-Some-next.ensures _ (starts_both _ _ _ alike (λ own other byte made. search rules))),
    )

pub returns : goal.returns
returns c =
    let args = c.args in
    let behind =
    subst (λ (o : Option ℕ). SummedTo (numeral args.row) args.data_symbols args.size args.contents.now c.loop-next.target (next_or args.data_symbols o))
    c.in_default-next.is c.loop-next.invariant.1 in
    all_passed (numeral args.row) args.data_symbols args.size args.contents.now c.requires.1 c.loop-next.target args.data_symbols (omega arith) behind
