use Rattle.std.proofs.Common.{◌≢◌, sym, ap, ◌∙◌, subst, arith, get_or-set_other, get_or-set_same, below_more}
use Rattle.std.proofs.lemmas.List.{get_or_default}
use Rattle.station.specs.Rule.{Sound, started}
use Rattle.run.specs.Records.{blank}
use Rattle.run.proofs.gather.begin_all.Goals as goal

pub begin_first-requires : goal.begin_first-requires
begin_first-requires g c =
    let i = c.loop-s.s-index in
    let s = get_or_default c.loop-s.stations i c.s-item.result blank (omega arith) in
    subst Sound (sym (s ∙ c.loop-s.invariant.1 i (omega arith))) (c.requires i (omega arith))

pub loop-s-preserved : goal.loop-s-preserved
loop-s-preserved g c =
    let xs = c.loop-s.stations in
    let i = c.loop-s.s-index in
    let s = get_or_default xs i c.s-item.result blank (omega arith) in
    let b = c.begin_first.new.self in (
      below_more _ _
          (λ k h. let ne : k ≢ i = omega arith in get_or-set_other xs i k b blank ne ∙ c.loop-s.invariant.0 k h)
          (get_or-set_same xs i b blank (omega arith) ∙ c.begin_first.ensures.record ∙ ap (λ x. (started x).0) (s ∙ c.loop-s.invariant.1 i (omega arith))),
      λ k h. let ne : k ≢ i = omega arith in get_or-set_other xs i k b blank ne ∙ c.loop-s.invariant.1 k (omega arith),
    )
