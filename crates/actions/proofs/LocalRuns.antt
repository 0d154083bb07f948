-- Threads with the same local runs have the same behaviour.
use Rattle.std.proofs.Common.{◌≡◌, Bool, true, false, List, [], ◌∷◌, refl, sym, subst, ◌∙◌}
use Rattle.actions.specs.declared.action.Answer.{Answer}
use Rattle.actions.specs.declared.action.Next.{Next}
use Rattle.actions.specs.declared.action.Next.TheVariants.{Act, Ended, Blocked, Broken}
use Rattle.actions.specs.Behaviour.{Behaviour, after, accepts, IsProper}
use Rattle.actions.specs.LocalRun.{Exchange, SameRuns, SameBehaviours}

-- what is next in both at once
same_next : (b c : Behaviour) → SameRuns b c → b [] ≡ c []
same_next b c same = sym ((same [] (b [])).0 refl)

-- an accepted answer belongs to an action, and goes on both local runs
next_runs : (n : Next) (b c : Behaviour) (a : Answer) → SameRuns b c → b [] ≡ n → accepts n a ≡ true → SameRuns (after b a) (after c a)
next_runs (Act action line function) b c a same e ok =
    let x : Exchange = record { action = action; line = line; function = function; answer = a } in
    let d : c [] ≡ Act action line function = sym (same_next b c same) ∙ e in
    λ run next. (
      (λ r. ((same (x ∷ run) next).0 (e, subst (λ (n : Next). accepts n a ≡ true) (sym e) ok, r)).2),
      (λ r. ((same (x ∷ run) next).1 (d, subst (λ (n : Next). accepts n a ≡ true) (sym d) ok, r)).2),
    )
next_runs (Ended v) b c a same e ok = absurd (cc ok)
next_runs Blocked b c a same e ok = absurd (cc ok)
next_runs (Broken class line function) b c a same e ok = absurd (cc ok)

proper_after : (b : Behaviour) (a : Answer) → IsProper b → IsProper (after b a)
proper_after b a proper = λ before x later h. proper (a ∷ before) x later h

by_accepts : (b c : Behaviour) (a : Answer) (answers : List Answer) (ok : Bool) → IsProper b → IsProper c → SameRuns b c → accepts (b []) a ≡ ok
    → (accepts (b []) a ≡ true → b (a ∷ answers) ≡ c (a ∷ answers)) → b (a ∷ answers) ≡ c (a ∷ answers)
by_accepts b c a answers true p q same e rest = rest e
by_accepts b c a answers false p q same e rest =
    p [] a answers e ∙ sym (q [] a answers (subst (λ (n : Next). accepts n a ≡ false) (same_next b c same) e))

same_at : (answers : List Answer) (b c : Behaviour) → IsProper b → IsProper c → SameRuns b c → b answers ≡ c answers
same_at [] b c p q same = same_next b c same
same_at (a ∷ answers) b c p q same =
    by_accepts b c a answers (accepts (b []) a) p q same refl
    (λ ok. same_at answers (after b a) (after c a) (proper_after b a p) (proper_after c a q) (next_runs (b []) b c a same refl ok))

pub same_behaviours : SameBehaviours
same_behaviours = λ b c p q same i answers. same_at answers b c p q same i
