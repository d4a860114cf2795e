use Rattle.std.proofs.Common.{rules, sym, ap, ◌∙◌}
use borrow.Author.Tests.{tests}
use Rattle.std.proofs.lemmas.List.{take_rest}
use Rattle.std.proofs.lemmas.Iterator.{IsFirst-from_position, YieldsList-from_slice}
use Rattle.lines.specs.Lines.{seen_pair}
use Rattle.lines.proofs.Fields.{IsSeparator, IsOther, cut, split_cut}
use Rattle.lines.proofs.line.split_field.Goals as goal

pub returns-in_err-i : goal.returns-in_err-i
returns-in_err-i c =
    let text = c.args.text.now in
    let first = IsFirst-from_position _ _ _ IsSeparator IsOther c.position.ensures.ran (YieldsList-from_slice text cc) (λ x q k. search (rules, tests)) (λ x q k. search (rules, tests)) in
    ap seen_pair c.from_residual.ensures ∙ sym (split_cut text c.position.result first ∙ ap (cut text) c.in_err-i.was)

pub returns : goal.returns
returns c =
    let text = c.args.text.now in
    let first = IsFirst-from_position _ _ _ IsSeparator IsOther c.position.ensures.ran (YieldsList-from_slice text cc) (λ x q k. search (rules, tests)) (λ x q k. search (rules, tests)) in
    simp take_rest (sym (split_cut text c.position.result first ∙ ap (cut text) c.in_ok-i.was))
