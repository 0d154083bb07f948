use Rattle.std.proofs.Common.{◌≡◌, ◌≤◌, ◌++◌, List, length}
use Rattle.c_token.specs.declared.token.Token.{Token}
use Rattle.c_pre.specs.Views.{macros_in}
use Rattle.c_pre.specs.Waiting.{rests_of, RestsTold}
use Rattle.c_pre.specs.Known.{fates_in, findings_of, opens_of, AreOpen}
use Rattle.c_pre.proofs.Leading.{Wholes}
use Rattle.c_pre.proofs.replacing.replace_known.Given as goal

abbrev pub invariant-loop : goal.invariant-loop
invariant-loop l = record {
  few : length l.out.items ≤ 200000;
  told : RestsTold l.bytes (macros_in l.macros.entries) (fates_in l.known.fates.entries) (rests_of l.replacing.rests.items);
  opened : AreOpen (findings_of l.known) (opens_of l.replacing.opened.entries);
  gone : (given : List Token) × (l.out.items ≡ l.fn.out.items ++ given)
      × Wholes l.bytes (macros_in l.macros.entries) l.known.nodes.items l.text (rests_of l.replacing.rests.items) (opens_of l.replacing.opened.entries) given;
}
