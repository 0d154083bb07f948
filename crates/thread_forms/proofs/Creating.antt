-- A main that creates a thread and ends, and the thread, are forms.
use Rattle.std.proofs.Common.{◌≡◌, ◌<◌, ◌≤◌, ◌^◌, ℕ, zero, suc, Bool, true, false, cond, List, [], ◌∷◌, nat_lt, inl, inr, refl, sym, ap, subst, ◌∙◌, arith, true≢false}
use Rattle.actions.specs.declared.action.Action.TheVariants as action
use Rattle.actions.specs.declared.action.Answer.{Answer}
use Rattle.actions.specs.declared.action.Answer.TheVariants as answer
use Rattle.actions.specs.declared.action.Next.{Next}
use Rattle.actions.specs.declared.action.Next.TheVariants.{Act, Blocked}
use Rattle.actions.specs.Behaviour.{Behaviour, after, accepts}
use Rattle.actions.specs.ByStates.{behaviour_of}
use Rattle.actions.specs.LocalRun.{Exchange, IsLocalRun}
use Rattle.interleave.specs.Script.{start_at, next_in, stepped}
use Rattle.weave.specs.Candidate.{In}
use Rattle.thread_forms.specs.Forms.{Valuation, Told, asks, Name, names, begins, goes_by, Goes, heard_if, heard, is_create, IsStopped, ends_with, Begins, SameBelow, SameEvent}
use Rattle.thread_forms.specs.Instance.{creating, creating_steps, creating_events, creating_low, creating_forms, HasCreate}

-- the thread that ends
abbrev ending : Behaviour
ending = behaviour_of (next_in creating_steps) (stepped creating_steps) (start_at 1)

abbrev ends : Told
ends = asks (Act (action.End 0) 1 0) answer.Done

ended : (run : List Exchange) (next : Next) → IsLocalRun (after ending answer.Done) run next → ends_with run next
ended [] next e = subst IsStopped e tt
ended (x ∷ run) next e = absurd (cc e.0)

told_done : (a : Answer) → accepts (ending []) a ≡ true → answer.Done ≡ a
told_done answer.Done e = refl
told_done (answer.Bytes bs) e = absurd (true≢false (sym e))
told_done (answer.Size n) e = absurd (true≢false (sym e))
told_done (answer.Word w) e = absurd (true≢false (sym e))
told_done (answer.Number n) e = absurd (true≢false (sym e))
told_done (answer.Value u) e = absurd (true≢false (sym e))

end_has : (run : List Exchange) (next : Next) → IsLocalRun ending run next → Begins run next (heard_if true ends ∷ [])
end_has [] next e = e
end_has (x ∷ run) next h =
    let d : answer.Done ≡ x.answer = told_done x.answer h.1 in
    (h.0, d, ended run next (subst (λ (a : Answer). IsLocalRun (after ending a) run next) (sym d) h.2))

abbrev behind : Bool → Behaviour
behind b = λ answers. cond b (ending answers) Blocked

rest_goes : (b : Bool) → goes_by b ends (behind b) (λ c. IsStopped (c []))
rest_goes true = (refl, tt)
rest_goes false = tt

gives : (v : Valuation) (i : ℕ) → i < 2 → Goes v (begins creating_forms creating v i) (creating_events i)
gives v zero l = (refl, rest_goes (nat_lt (v 0) (2 ^ 32)))
gives v (suc i) l = (refl, tt)

rest_has : (b : Bool) (run : List Exchange) (next : Next) → b ≡ true → IsLocalRun (behind b) run next → Begins run next (heard_if b ends ∷ [])
rest_has true run next e h = end_has run next h
rest_has false run next e h = absurd (true≢false (sym e))

main_has : (x : Exchange) (a : Answer) (run : List Exchange) (next : Next) → x.answer ≡ a → creating.behaves [] ≡ Act x.action x.line x.function → accepts (creating.behaves []) a ≡ true → IsLocalRun (after creating.behaves a) run next
    → (w : Valuation) × Begins (x ∷ run) next (heard w (creating_events 0))
main_has x (answer.Number n) run next q e ok h = (λ y. n, (e, sym q, rest_has (nat_lt n (2 ^ 32)) run next ok h))
main_has x answer.Done run next q e ok h = absurd (true≢false (sym ok))
main_has x (answer.Bytes bs) run next q e ok h = absurd (true≢false (sym ok))
main_has x (answer.Size n) run next q e ok h = absurd (true≢false (sym ok))
main_has x (answer.Word w) run next q e ok h = absurd (true≢false (sym ok))
main_has x (answer.Value u) run next q e ok h = absurd (true≢false (sym ok))

has : (v : Valuation) (i : ℕ) → i < 2 → (run : List Exchange) (next : Next) → IsLocalRun (begins creating_forms creating v i) run next
    → (w : Valuation) × SameBelow (creating_low i) v w × Begins run next (heard w (creating_events i))
has v zero l [] next e = (v, λ x k. refl, e)
has v zero l (x ∷ run) next h =
    let r = main_has x x.answer run next refl h.0 h.1 h.2 in
    (r.0, λ y k. absurd (omega (arith, k)), r.1)
has v (suc i) l run next h = (v, λ x k. refl, end_has run next h)

alone : (i : ℕ) → i < 2 → (v w : Valuation) → SameBelow (creating_low (suc i)) v w → (x : Name) → In x (names creating_forms i) → SameEvent v w x.event
alone zero l v w s x (inl q) =
    subst (λ (y : Name). SameEvent v w y.event) (sym q) (refl, ap (λ (n : ℕ). asks (Act (action.Create 1 0) 1 0) (answer.Number n)) (s 0 (omega arith)))
alone zero l v w s x (inr (inl q)) = subst (λ (y : Name). SameEvent v w y.event) (sym q) (ap (λ (n : ℕ). nat_lt n (2 ^ 32)) (s 0 (omega arith)), refl)
alone zero l v w s x (inr (inr k)) = absurd k
alone (suc i) l v w s x (inl q) = subst (λ (y : Name). SameEvent v w y.event) (sym q) (refl, refl)
alone (suc i) l v w s x (inr k) = absurd k

rises : (i : ℕ) → creating_low i ≤ creating_low (suc i)
rises zero = omega arith
rises (suc i) = omega arith

whole : (v : Valuation) (x : Name) (i : ℕ) → In x (names creating_forms i) → is_create (x.event.told v) ≡ true → (i : ℕ) × (suc i < 2) × (creating_forms.creator i ≡ x)
whole v x zero (inl q) e = (0, omega arith, sym q)
whole v x zero (inr (inl q)) e = absurd (true≢false (sym e ∙ ap (λ (y : Name). is_create (y.event.told v)) q))
whole v x zero (inr (inr k)) e = absurd k
whole v x (suc i) (inl q) e = absurd (true≢false (sym e ∙ ap (λ (y : Name). is_create (y.event.told v)) q))
whole v x (suc i) (inr k) e = absurd k

pub has_create : HasCreate
has_create = record {
  some = omega arith;
  gives = gives;
  has = has;
  alone = alone;
  rises = rises;
  earlier = λ i. omega arith;
  placed = λ i l. inl refl;
  creating = λ i l v. tt;
  once = λ i j l k e. one i j l k;
  whole = λ v x l k e. whole v x x.form k e;
}
  where
    one : (i j : ℕ) → suc i < 2 → suc j < 2 → i ≡ j
    one i j l k = omega arith
