use Rattle.std.proofs.Common.{◌≡◌, refl, sym, to_z, of_z, arith}
use Rattle.std.specs.Int.{w32}
use Rattle.std.proofs.lemmas.Int.{ints}
use Rattle.value.specs.MapLaws.{map_of_units}
use Rattle.value.proofs.graded_map.GradedMap.from_units.Goals as goal
use Rattle.value.proofs.graded_map.GradedMap.from_units.Goals.{in-0, in-1}

pub returns : goal.returns
returns c =
    let grade : c.args.grade ≡ to_z w32 (of_z w32 c.args.grade) = omega (arith, ints) in
    elim c.match-verso.branch [
      | in-0 w ↦ sym (map_of_units _ _ _ _ refl grade (rw w.verso-is w.in-0.is))
      | in-1 w ↦ sym (map_of_units _ _ _ _ refl grade (rw w.verso-is w.in-1.is))
    ]
