use Rattle.std.proofs.Common.{ap, ◌∙◌, arith, rules}
use Rattle.std.proofs.lemmas.Iterator.{YieldsList-from_range, YieldsList-from_slice, YieldsList-from_zip}
use Rattle.std.proofs.lemmas.Iterator.Search.{all_from_yields_List}
use Rattle.std.specs.List.{list_all}
use Rattle.station.specs.Rule.{formed}
use Rattle.run.proofs.Every.{numbered}
use Rattle.run.proofs.gather.are_formed.Goals as goal

pub returns : goal.returns
returns g c =
    let n = c.args.n in
    let ss = c.args.stations.now in
    all_from_yields_List (λ p. formed n p.0 p.1) c.all.new.self _ c.all.result c.all.ensures.ran
    (YieldsList-from_zip (YieldsList-from_range 0 n n (search rules) (omega arith)) (YieldsList-from_slice ss (search rules)))
    (λ p b q k. search rules)
    ∙ ap (list_all (λ p. formed n p.0 p.1)) (numbered 0 ss n c.requires)
