-- `stripes::do_pass` meets its contract: each kind's loop begins with what the step makes of its target. Assumes nothing.
use mathlib.Core.Path.{sym, ap, ◌∙◌, subst}
use lib.ListN.{length}
use Rattle.stripes.specs.InnerStepSymbols.{StepSymbolsWithin}
use Rattle.stripes.proofs.RunLaws.{after_pass}
use Rattle.stripes.proofs.do_pass.Goals as goal

pub clear-requires : goal.clear-requires
clear-requires c =
    let fits = subst (StepSymbolsWithin c.args.size (length c.args.stripe.now)) c.in-Clear.is c.requires.0 in
    (record { target_within = fits; sources_within = c.requires.1 })

pub copy-requires : goal.copy-requires
copy-requires c =
    let fits = subst (StepSymbolsWithin c.args.size (length c.args.stripe.now)) c.in-Copy.is c.requires.0 in
    (record { target_within = fits.0; source_within = fits.1; sources_within = c.requires.1 })

pub add-requires : goal.add-requires
add-requires c =
    let fits = subst (StepSymbolsWithin c.args.size (length c.args.stripe.now)) c.in-Add.is c.requires.0 in
    (record { target_within = fits.0; source_within = fits.1; sources_within = c.requires.1 })

pub returns-in-Clear : goal.returns-in-Clear
returns-in-Clear c =
    let args = c.args in
    c.clear.ensures ∙ sym (ap (after_pass args.size args.stripe.now args.sources.now.items) c.in-Clear.is)

pub returns-in-Copy : goal.returns-in-Copy
returns-in-Copy c =
    let args = c.args in
    c.copy.ensures ∙ sym (ap (after_pass args.size args.stripe.now args.sources.now.items) c.in-Copy.is)

pub returns-in-Add : goal.returns-in-Add
returns-in-Add c =
    let args = c.args in
    c.add.ensures ∙ sym (ap (after_pass args.size args.stripe.now args.sources.now.items) c.in-Add.is)
