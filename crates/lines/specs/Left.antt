-- The lines that are still to be read.
use Rattle.std.specs.Prelude.{ℕ, List}
use Rattle.lines.specs.Lines.{lines}
use Rattle.lines.specs.declared.text.Lines.{Lines}

-- the lines that an iterator has left
abbrev pub lines_left : Lines → List (List ℕ)
lines_left it = lines it.rest.now
