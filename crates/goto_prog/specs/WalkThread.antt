-- What a thread that walks through code of functions does is what a thread may do.
use Rattle.std.specs.Prelude.{ℕ, zero, suc, ◌==◌, Bool, true, false, List, [], ◌∷◌, Option, Some, None, slice_get, slice_index, if◌then◌else◌}
use Rattle.std.proofs.Common.{refl}
use Rattle.words.specs.declared.check.Class.{Class}
use Rattle.words.specs.declared.check.Class.TheVariants.{Unwind, Recursion}
use Rattle.actions.specs.declared.action.Action.TheVariants.{End, Exit}
use Rattle.actions.specs.declared.action.Next.TheVariants.{Ended, Blocked, Broken}
use Rattle.actions.specs.Behaviour.{Behaviour, Program, IsBehaviour, IsThread, word_64}
use Rattle.goto_prog.specs.declared.code.Instruction.{Instruction}
use Rattle.goto_prog.specs.declared.walker.Status.TheVariants as statuses
use Rattle.goto_prog.specs.declared.walker.Status.{Status}
use Rattle.goto_prog.specs.Meaning.{Memory, Given, at, received}
use Rattle.goto_prog.specs.Threads.{Calls, acting, final}
use Rattle.goto_prog.specs.Fine.{AreFine, AreFineCalls, final_behaves, ask_behaves, choice_fine, at_fine, operation_fine, rest_fine}
use Rattle.goto_prog.specs.Nodes.{Nodes, done, plain, repeats, Routine, nodes_of}
use Rattle.goto_prog.specs.Structured.{Bounded, resolved, passed, rounds, round_count, tests, nodes_before, enters, entry_memory, opened, activation, first_fuel, first_left, leaves, leaves_with, value_of, runs_at, function_behaviour, function_thread, bounded_program}
use Rattle.goto_prog.specs.Walking.{LoopLevel, Cursor, Activation, next_place, next_instruction, levels_behind, places_from, does_from, does_by_instruction, does_on}
use Rattle.goto_prog.specs.Walks.{total, Waiting, Walk, bounded, calls_with, closed, hands_to, ends_of, does_by, walks, thread_of}

module _ (program : Program) (b : Bounded) where
  passed_fine : (assertions : Bool) (class : Class) (line f : ℕ) → IsBehaviour program (passed assertions class line f)
  passed_fine assertions class line f = choice_fine program assertions _ _ (final_behaves program (Broken class line f) tt) (final_behaves program Blocked tt)

  rounds_fine : (assertions : Bool) (line f : ℕ) (round : (Memory → Behaviour) → Memory → Behaviour) → ((again : Memory → Behaviour) → ((m : Memory) → IsBehaviour program (again m)) → (m : Memory) → IsBehaviour program (round again m))
      → (n : ℕ) (m : Memory) → IsBehaviour program (rounds assertions line f round n m)
  rounds_fine assertions line f round fine zero m = passed_fine assertions Unwind line f
  rounds_fine assertions line f round fine (suc n) m = fine (rounds assertions line f round n) (λ k. rounds_fine assertions line f round fine n k) m

  module _ (calls : Calls) (hands : Given → Behaviour) (fine_calls : AreFineCalls program calls) (fine_hands : (given : Given) → IsBehaviour program (hands given)) where
    nodes_fine : (nodes : Nodes) (later : List (Memory → Behaviour)) → AreFine program later → AreFine program (nodes_before b (acting calls hands) nodes later)
    nodes_fine done later fine = fine
    nodes_fine (plain i rest) later fine =
        let behind = nodes_fine rest later fine in
        ((λ m. operation_fine program calls hands fine_calls fine_hands b.strict 0 i.line i.function (resolved b.limits i.operation) (nodes_before b (acting calls hands) rest later) m behind), behind)
    nodes_fine (repeats line f n rotated body rest) later fine =
        let o = acting calls hands in
        let behind = nodes_fine rest later fine in (
          (λ m. rounds_fine b.limits.assertions line f (λ again. at o (nodes_before b o body (again ∷ nodes_before b o rest later)) 0)
              (λ again are k. at_fine program calls hands fine_calls fine_hands (nodes_before b o body (again ∷ nodes_before b o rest later)) 0 k (nodes_fine body (again ∷ nodes_before b o rest later) (are, behind)))
              (round_count rotated (tests b f n)) m),
          behind,
        )

    levels_fine : (levels : List LoopLevel) → AreFine program (levels_behind b (acting calls hands) levels)
    levels_fine [] = ((λ m. fine_hands None), tt)
    levels_fine (l ∷ levels) =
        let o = acting calls hands in
        let behind = nodes_fine (nodes_of l.behind) (levels_behind b o levels) (levels_fine levels) in (
          (λ m. rounds_fine b.limits.assertions l.line l.function (λ again. at o (nodes_before b o (nodes_of l.body) (again ∷ nodes_before b o (nodes_of l.behind) (levels_behind b o levels))) 0)
              (λ again are k. at_fine program calls hands fine_calls fine_hands (nodes_before b o (nodes_of l.body) (again ∷ nodes_before b o (nodes_of l.behind) (levels_behind b o levels))) 0 k
              (nodes_fine (nodes_of l.body) (again ∷ nodes_before b o (nodes_of l.behind) (levels_behind b o levels)) (are, behind)))
              l.left m),
          behind,
        )

    places_are_fine : (p : Cursor) → AreFine program (places_from b (acting calls hands) p)
    places_are_fine p = nodes_fine (nodes_of p.nodes) (levels_behind b (acting calls hands) p.levels) (levels_fine p.levels)

    place_fine : (p : Cursor) (m : Memory) → IsBehaviour program (does_from b (acting calls hands) p m)
    place_fine p m = at_fine program calls hands fine_calls fine_hands (places_from b (acting calls hands) p) 0 m (places_are_fine p)

    instruction_fine : (words : ℕ) (a : Activation) (i : Option Instruction) → IsBehaviour program (does_by_instruction b calls hands words a i)
    instruction_fine words a None = place_fine a.place a.working.memory
    instruction_fine words a (Some i) =
        rest_fine program calls hands fine_calls fine_hands words b.strict 0 i.line i.function i.operation (places_from b (acting calls hands) (next_place a.place)) a.working.memory (places_are_fine (next_place a.place))

    on_fine : (words : ℕ) (a : Activation) → IsBehaviour program (does_on b calls hands words a)
    on_fine zero a = place_fine a.place a.working.memory
    on_fine (suc k) a = instruction_fine (suc k) a (next_instruction b a.place.nodes)

  enters_fine : (p : Option Routine) (calls : Calls) (arguments : List (List ℕ)) (follows : Given → Behaviour) → AreFineCalls program calls → ((given : Given) → IsBehaviour program (follows given)) → IsBehaviour program (enters b p calls arguments follows)
  enters_fine None calls arguments follows fine after = final_behaves program Blocked tt
  enters_fine (Some p) calls arguments follows fine after =
      let o = acting calls follows in
      at_fine program calls follows fine after (nodes_before b o p.nodes ((λ m. follows None) ∷ [])) 0 (entry_memory p arguments) (nodes_fine calls follows fine after p.nodes ((λ m. follows None) ∷ []) ((λ m. after None), tt))

  activation_fine : (fuel : ℕ) (left : List ℕ) → AreFineCalls program (activation b fuel left)
  activation_fine zero left caller f line arguments follows fine = passed_fine b.limits.assertions Recursion line caller
  activation_fine (suc fuel) left caller f line arguments follows fine =
      choice_fine program (slice_index left f == 0) _ _ (passed_fine b.limits.assertions Recursion line caller)
      (enters_fine (slice_get b.functions f) (activation b fuel (opened left f)) arguments follows (activation_fine fuel (opened left f)) fine)

  leaves_fine : (first : Bool) (f line v : ℕ) → IsBehaviour program (leaves_with first f line v)
  leaves_fine true f line v = ask_behaves program Exit line f (λ a. final (Ended (word_64 0))) (λ a. refl) (λ a. final_behaves program (Ended (word_64 0)) tt)
  leaves_fine false f line v = ask_behaves program (End v) line f (λ a. final (Ended (word_64 v))) (λ a. refl) (λ a. final_behaves program (Ended (word_64 v)) tt)

  runs_fine : (first : Bool) (number : ℕ) (p : Option Routine) → IsBehaviour program (runs_at b first number p)
  runs_fine first number None = final_behaves program Blocked tt
  runs_fine first number (Some p) =
      activation_fine (first_fuel b) (first_left b) number number p.line [] (leaves first number p.line) (λ given. leaves_fine first number p.line (value_of given))

  hands_fine : (ends : Given → Behaviour) → ((given : Given) → IsBehaviour program (ends given)) → (left : List ℕ) (ws : List Waiting) (given : Given) → IsBehaviour program (hands_to b ends left ws given)
  hands_fine ends fine left [] given = fine given
  hands_fine ends fine left (w ∷ ws) given =
      let now = closed left w in
      place_fine (calls_with b now) (hands_to b ends now ws) (activation_fine (suc (total now)) now) (λ more. hands_fine ends fine now ws more) w.activation.place (received w.activation.working.memory w.into w.returned given)

does_fine : (program : Program) (s : Status) (w : Walk) → IsBehaviour program (does_by s w)
does_fine program statuses.Running w =
    let b = bounded w in
    place_fine program b (calls_with b w.left) (hands_to b (ends_of w) w.left w.below) (activation_fine program b (suc (total w.left)) w.left)
    (λ given. hands_fine program b (ends_of w) (λ more. leaves_fine program b w.first w.number w.line (value_of more)) w.left w.below given) w.top.place w.top.working.memory
does_fine program (statuses.Drawing words) w =
    let b = bounded w in
    on_fine program b (calls_with b w.left) (hands_to b (ends_of w) w.left w.below) (activation_fine program b (suc (total w.left)) w.left)
    (λ given. hands_fine program b (ends_of w) (λ more. leaves_fine program b w.first w.number w.line (value_of more)) w.left w.below given) words w.top
does_fine program (statuses.Leaving v) w = leaves_fine program (bounded w) w.first w.number w.line v
does_fine program (statuses.Over v) w = final_behaves program (Ended (word_64 v)) tt

pub is_thread : (w : Walk) → IsThread (thread_of w)
is_thread w = record {
  itself = does_fine (bounded_program (bounded w)) w.status w;
  others = λ f v h k. runs_fine (bounded_program (bounded w)) (bounded w) false f (slice_get (bounded w).functions f);
}

pub is_function_thread : (b : Bounded) (first : Bool) (number : ℕ) → IsThread (function_thread b first number)
is_function_thread b first number = record {
  itself = runs_fine (bounded_program b) b first number (slice_get b.functions number);
  others = λ f v h k. runs_fine (bounded_program b) b false f (slice_get b.functions f);
}
