use Rattle.std.proofs.Common.{rules, length, sym, ◌∙◌, ⊎_elim, arith}
use Rattle.std.proofs.lemmas.Bool.{eqb-true, eqb-false}
use Rattle.std.proofs.lemmas.Iterator.{YieldsList-from_slice}
use Rattle.lines.proofs.Numbers.{run_from_try_fold, run_fits, too_short, too_long}
use Rattle.lines.proofs.number.read_number.Goals as goal

pub returns-then-is_empty : goal.returns-then-is_empty
returns-then-is_empty c =
    ⊎_elim (λ e. too_short c.args.text.now (eqb-true _ 0 (sym c.is_empty.ensures ∙ e)))
    (λ e. too_long c.args.text.now (omega arith))
    c.then-is_empty.either

pub returns : goal.returns
returns c =
    run_from_try_fold _ _ _ _ _ (λ n x r q k. search rules) 0 _ c.try_fold.ensures.ran (YieldsList-from_slice c.args.text.now cc)
    ∙ run_fits c.args.text.now (omega (arith, eqb-false (length c.args.text.now) 0 (sym c.if-is_empty.ensures))) (omega arith)
