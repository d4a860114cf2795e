use Rattle.std.proofs.Common.{rules, sym, ap, ◌∙◌}
use borrow.Author.Tests.{tests}
use Rattle.std.proofs.lemmas.List.{take_rest}
use Rattle.std.proofs.lemmas.Iterator.{IsFirst-from_position}
use Rattle.lines.proofs.Texts.{Ends, Goes, YieldsList-from_pairs, cut, first_line_cut}
use Rattle.lines.proofs.text.split_line.Goals as goal

pub returns-in-Some : goal.returns-in-Some
returns-in-Some c =
    let text = c.args.text.now in
    let first = IsFirst-from_position _ _ _ Ends Goes c.position.ensures.ran (YieldsList-from_pairs text (cc) (cc)) (λ x q k. search (rules, tests)) (λ x q k. search (rules, tests)) in
    simp take_rest (sym (first_line_cut text c.position.result first ∙ ap (cut text) c.in-Some.is))

pub returns-in-None : goal.returns-in-None
returns-in-None c =
    let text = c.args.text.now in
    let first = IsFirst-from_position _ _ _ Ends Goes c.position.ensures.ran (YieldsList-from_pairs text (cc) (cc)) (λ x q k. search (rules, tests)) (λ x q k. search (rules, tests)) in
    sym (first_line_cut text c.position.result first ∙ ap (cut text) c.in-None.is)
