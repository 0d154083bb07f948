-- The head that the code has.
use Rattle.report.specs.Report.{Head}
use Rattle.report.specs.declared.texts.Head.{Head as CodeHead}

abbrev pub head_of : CodeHead → Head
head_of h = record { generated = h.generated; name = h.name.bytes.items; unwind = h.unwind; assertions = h.assertions }
