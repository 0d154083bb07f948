-- Answers to the actions of a function.
use Rattle.std.proofs.Common.{◌≡◌, ℕ, ◌+◌, ◌-◌, ◌*◌, ◌<◌, Bool, true, List, [], ◌∷◌, Some, refl, sym, ap, ◌∙◌, subst}
use Rattle.std.specs.Prelude.{if◌then◌else◌}
use Rattle.c_values.specs.Variables.{word_count, drawn_count}
use Rattle.actions.specs.declared.action.Action.{Action}
use Rattle.actions.specs.declared.action.Action.TheVariants as actions
use Rattle.actions.specs.declared.action.Answer.{Answer}
use Rattle.actions.specs.declared.action.Next.TheVariants.{Ended, Blocked}
use Rattle.actions.specs.Behaviour.{Behaviour, word_64, accepts, has_shape, shape_of, after}
use Rattle.goto_prog.specs.declared.code.Instruction.{Instruction}
use Rattle.goto_prog.specs.declared.code.Operation.TheVariants as operations
use Rattle.goto_prog.specs.Meaning.{Memory, Given, first_count, action_of, answered_with, at, fills, operates_on}
use Rattle.goto_prog.specs.Threads.{Calls, acting, final, ask}
use Rattle.goto_prog.specs.Running.{is_exchange}
use Rattle.goto_prog.specs.Structured.{Bounded}
use Rattle.goto_prog.specs.Walking.{next_place, landed, places_from, Activation, does, does_on, next_instruction, lone_on}
use Rattle.goto_prog.proofs.Exchanges.{exchanges, on_other, exchange_single, word_taken, word_left, words_behind}
use Rattle.goto_prog.proofs.WalkSteps.{with_words, with_fill}

taken : (action : Action) (line f : ℕ) (follows : Answer → Behaviour) (a : Answer) (t : Bool) → has_shape (shape_of action) a ≡ t → t ≡ true → (λ answers. ask action line f follows (a ∷ answers)) ≡ follows a
taken action line f follows a t same holds = λ k answers. if (same ∙ holds) k then follows a answers else Blocked

module _ (b : Bounded) (a : Activation) (i : Instruction) (found : next_instruction b a.place.nodes ≡ Some i) (x : Answer) (words : ℕ) (allowed : accepts (lone_on b words a []) x ≡ true) where
  abbrev behind : Calls → (Given → Behaviour) → List (Memory → Behaviour)
  behind calls hands = places_from b (acting calls hands) (next_place a.place)

  abbrev follows : Calls → (Given → Behaviour) → Answer → Behaviour
  follows calls hands y = at (acting calls hands) (behind calls hands) 0 (answered_with i.operation a.working.memory y)

  with_exchange : is_exchange i.operation ≡ true → (calls : Calls) (hands : Given → Behaviour) → does_on b calls hands words a ≡ ask (action_of i.operation a.working.memory) i.line i.function (follows calls hands)
  with_exchange h calls hands =
      with_words b a i found words calls hands
      ∙ on_other (acting calls hands) b.strict 0 i.line i.function (behind calls hands) a.working.memory words i.operation (exchange_single i.operation h)
      ∙ exchanges (acting calls hands) b.strict 0 i.line i.function (behind calls hands) a.working.memory i.operation h

  pub shape_of_exchange : is_exchange i.operation ≡ true → has_shape (shape_of (action_of i.operation a.working.memory)) x ≡ true
  shape_of_exchange h = subst (λ (y : Behaviour). accepts (y []) x ≡ true) (with_exchange h (λ caller f line arguments follows. final Blocked) (λ given. final Blocked)) allowed

  pub takes_exchange : is_exchange i.operation ≡ true
      → (calls : Calls) (hands : Given → Behaviour) → does b calls hands (record { place = landed 0 (next_place a.place); working = record a.working { memory = answered_with i.operation a.working.memory x } }) ≡ after (does_on b calls hands words a) x
  takes_exchange h calls hands =
      sym (taken (action_of i.operation a.working.memory) i.line i.function (follows calls hands) x true (shape_of_exchange h) refl)
      ∙ ap (λ (y : Behaviour). after y x) (sym (with_exchange h calls hands))

  with_exit : i.operation ≡ operations.Exit → (calls : Calls) (hands : Given → Behaviour) → does_on b calls hands words a ≡ ask actions.Exit i.line i.function (λ y. final (Ended (word_64 0)))
  with_exit is calls hands =
      with_words b a i found words calls hands ∙ ap (λ o. operates_on (acting calls hands) words b.strict 0 i.line i.function o (behind calls hands) a.working.memory) is

  pub takes_exit : i.operation ≡ operations.Exit → (calls : Calls) (hands : Given → Behaviour) → final (Ended (word_64 0)) ≡ after (does_on b calls hands words a) x
  takes_exit is calls hands =
      let shape : has_shape (shape_of actions.Exit) x ≡ true = subst (λ (y : Behaviour). accepts (y []) x ≡ true) (with_exit is (λ caller f line arguments follows. final Blocked) (λ given. final Blocked)) allowed in
      sym (taken actions.Exit i.line i.function (λ y. final (Ended (word_64 0))) x true shape refl)
      ∙ ap (λ (y : Behaviour). after y x) (sym (with_exit is calls hands))

  module _ (k q : ℕ) (is : i.operation ≡ operations.Fill k q) (more : words < word_count (first_count a.working.memory k q)) where
    abbrev size : ℕ
    size = first_count a.working.memory k q

    abbrev onward : Calls → (Given → Behaviour) → Answer → Behaviour
    onward calls hands y = fills (acting calls hands) (word_count size - (words + 1)) 0 i.line i.function k size (8 * words + 8) (behind calls hands) (word_taken a.working.memory k size words y)

    with_word : (calls : Calls) (hands : Given → Behaviour) → does_on b calls hands words a ≡ ask (actions.Draw (8 * drawn_count size (8 * words))) i.line i.function (onward calls hands)
    with_word calls hands = with_fill b a i found k q is words calls hands ∙ word_left (acting calls hands) 0 i.line i.function k q (behind calls hands) a.working.memory words more

    pub takes_word : (let m = word_taken a.working.memory k size words x in first_count m k q ≡ size
        → (calls : Calls) (hands : Given → Behaviour) → does_on b calls hands (words + 1) (record a { working = record a.working { memory = m } }) ≡ after (does_on b calls hands words a) x)
    takes_word same calls hands =
        let m = word_taken a.working.memory k size words x in
        let shape : has_shape (shape_of (actions.Draw (8 * drawn_count size (8 * words)))) x ≡ true =
        subst (λ (y : Behaviour). accepts (y []) x ≡ true) (with_word (λ caller f line arguments follows. final Blocked) (λ given. final Blocked)) allowed in
        with_fill b (record a { working = record a.working { memory = m } }) i found k q is (words + 1) calls hands
        ∙ sym (words_behind (acting calls hands) 0 i.line i.function k q (behind calls hands) a.working.memory words m same)
        ∙ sym (taken (actions.Draw (8 * drawn_count size (8 * words))) i.line i.function (onward calls hands) x true shape refl)
        ∙ ap (λ (y : Behaviour). after y x) (sym (with_word calls hands))
