-- What stands for an instruction that is neither a jump, a call nor a return.
use Rattle.std.proofs.Common.{◌≡◌, ◌≢◌, ℕ, Option, [], ◌∷◌, refl}
use Rattle.goto_prog.specs.declared.code.Operation.{Operation}
use Rattle.goto_prog.specs.declared.code.Operation.TheVariants as operations
use Rattle.goto_prog.specs.Nodes.{Nodes}
use Rattle.goto_prog.specs.Structured.{resolved}
use Rattle.goto_unwind.specs.Unrolled.{at, renumbered}
use Rattle.goto_unwind.specs.Unroller.{Level, Making, placed, with_level, taken, does}

pub does_other : (l : Level) (rest : Nodes) (line f : ℕ) (o : Operation) (m : Making)
    → ((n : ℕ) → o ≢ operations.Skip n) → ((a n : ℕ) → o ≢ operations.SkipIfZero a n) → ((g first count into r : ℕ) → o ≢ operations.Call g first count into r) → ((v : Option ℕ) → o ≢ operations.Return v)
    → placed (at line f (renumbered l.site.register l.site.block (resolved m.limits o)) ∷ []) (with_level (taken l rest) m) ≡ does l rest line f o m
does_other l rest line f (operations.Constant x0 x1) m no_skip no_test no_call no_return = refl
does_other l rest line f (operations.Copy x0 x1) m no_skip no_test no_call no_return = refl
does_other l rest line f (operations.Load x0 x1 x2 x3) m no_skip no_test no_call no_return = refl
does_other l rest line f (operations.Store x0 x1 x2 x3) m no_skip no_test no_call no_return = refl
does_other l rest line f (operations.Clear x0 x1) m no_skip no_test no_call no_return = refl
does_other l rest line f (operations.CopyBytes x0 x1 x2 x3 x4) m no_skip no_test no_call no_return = refl
does_other l rest line f (operations.Convert x0 x1 x2 x3) m no_skip no_test no_call no_return = refl
does_other l rest line f (operations.Sign x0 x1 x2 x3) m no_skip no_test no_call no_return = refl
does_other l rest line f (operations.Arithmetic x0 x1 x2 x3 x4 x5) m no_skip no_test no_call no_return = refl
does_other l rest line f (operations.Compare x0 x1 x2 x3 x4) m no_skip no_test no_call no_return = refl
does_other l rest line f (operations.IsZero x0 x1) m no_skip no_test no_call no_return = refl
does_other l rest line f (operations.Skip n) m no_skip no_test no_call no_return = absurd (no_skip n refl)
does_other l rest line f (operations.SkipIfZero a n) m no_skip no_test no_call no_return = absurd (no_test a n refl)
does_other l rest line f (operations.Check x0) m no_skip no_test no_call no_return = refl
does_other l rest line f (operations.Assert x0) m no_skip no_test no_call no_return = refl
does_other l rest line f (operations.Assume x0) m no_skip no_test no_call no_return = refl
does_other l rest line f (operations.Draw x0 x1) m no_skip no_test no_call no_return = refl
does_other l rest line f (operations.ReadObject x0 x1 x2 x3 x4) m no_skip no_test no_call no_return = refl
does_other l rest line f (operations.WriteObject x0 x1 x2 x3 x4) m no_skip no_test no_call no_return = refl
does_other l rest line f operations.Exit m no_skip no_test no_call no_return = refl
does_other l rest line f (operations.Fail x0) m no_skip no_test no_call no_return = refl
does_other l rest line f (operations.Use x0) m no_skip no_test no_call no_return = refl
does_other l rest line f (operations.Call g first count into r) m no_skip no_test no_call no_return = absurd (no_call g first count into r refl)
does_other l rest line f (operations.Return v) m no_skip no_test no_call no_return = absurd (no_return v refl)
does_other l rest line f (operations.Move x0 x1 x2 x3 x4 x5 x6) m no_skip no_test no_call no_return = refl
does_other l rest line f (operations.Offset x0 x1 x2) m no_skip no_test no_call no_return = refl
does_other l rest line f (operations.Same x0 x1) m no_skip no_test no_call no_return = refl
does_other l rest line f (operations.Distance x0 x1 x2 x3) m no_skip no_test no_call no_return = refl
does_other l rest line f (operations.Relate x0 x1 x2 x3) m no_skip no_test no_call no_return = refl
does_other l rest line f (operations.Take x0 x1 x2 x3 x4 x5) m no_skip no_test no_call no_return = refl
does_other l rest line f (operations.Put x0 x1 x2 x3 x4 x5) m no_skip no_test no_call no_return = refl
does_other l rest line f (operations.Read x0 x1 x2 x3) m no_skip no_test no_call no_return = refl
does_other l rest line f (operations.Write x0 x1 x2 x3 x4) m no_skip no_test no_call no_return = refl
does_other l rest line f (operations.Look x0 x1 x2) m no_skip no_test no_call no_return = refl
does_other l rest line f (operations.Fill x0 x1) m no_skip no_test no_call no_return = refl
does_other l rest line f (operations.Alloc x0 x1 x2 x3 x4) m no_skip no_test no_call no_return = refl
does_other l rest line f (operations.Die x0) m no_skip no_test no_call no_return = refl
does_other l rest line f (operations.Free x0) m no_skip no_test no_call no_return = refl
does_other l rest line f (operations.MayFail x0) m no_skip no_test no_call no_return = refl
does_other l rest line f (operations.Limit x0 x1) m no_skip no_test no_call no_return = refl
