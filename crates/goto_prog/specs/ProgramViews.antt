-- The functions and bounds of the code.
use Rattle.goto_prog.specs.declared.program.Program.{Program}
use Rattle.goto_prog.specs.Nodes.{view_procedures}
use Rattle.goto_prog.specs.Structured.{Bounded}

abbrev pub bounded_by : Program → Bounded
bounded_by p = record { strict = p.strict; functions = view_procedures p.procedures.now; limits = p.bounds.now }
