use Rattle.std.proofs.Common.{◌≡◌, take}
use Rattle.event_forms.proofs.forms.ThreadForm.copied.Given as goal

abbrev pub invariant-loop-event : goal.invariant-loop-event
invariant-loop-event l = l.events.items ≡ take l.event-index l.self-inside.events.items
