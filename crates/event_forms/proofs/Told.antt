-- What is read off what happens in the run of one thread.
use Rattle.std.proofs.Common.{◌≡◌, ℕ, zero, suc, true, false, List, [], ◌∷◌, Some, None, refl, sym, ◌∙◌, ap, arith, true≢false}
use Rattle.std.specs.Prelude.{nat_lt, ◌==◌, if◌then◌else◌}
use Rattle.std.proofs.lemmas.Bool.Decides.{nat_tests}
use Rattle.words.specs.declared.check.Check.{Check}
use Rattle.actions.specs.declared.action.Next.{Next}
use Rattle.actions.specs.declared.action.Next.TheVariants.{Act, Ended, Blocked, Broken}
use Rattle.interleave.specs.Inputs.{words_of}
use Rattle.event_forms.specs.Runs.{Run, stops, asks}
use Rattle.event_forms.specs.Happenings.{schedule_in, words_given, words_drawn, AreDrawn, check_in}
use Rattle.event_forms.specs.Turns.{is_break, breaks, drawn_words, inputs_for, turns, end_check, broken_check, end_happens, happenings}

end_turn : (end : Next) → is_break end ≡ true → schedule_in (end_happens end) ≡ 0 ∷ []
end_turn (Act action line f) broken = absurd (true≢false (sym broken))
end_turn (Ended w) broken = absurd (true≢false (sym broken))
end_turn Blocked broken = absurd (true≢false (sym broken))
end_turn (Broken class line f) broken = refl

pub turns_told : (r : Run) → breaks r ≡ true → schedule_in (happenings r) ≡ turns r
turns_told (stops end) broken = end_turn end broken
turns_told (asks action line f a rest) broken = ap (λ ts. 0 ∷ ts) (turns_told rest broken)

end_told : (end : Next) → is_break end ≡ true → check_in (end_happens end) ≡ Some (end_check end)
end_told (Act action line f) broken = absurd (true≢false (sym broken))
end_told (Ended w) broken = absurd (true≢false (sym broken))
end_told Blocked broken = absurd (true≢false (sym broken))
end_told (Broken class line f) broken = refl

pub check_told : (r : Run) → breaks r ≡ true → check_in (happenings r) ≡ Some (broken_check r)
check_told (stops end) broken = end_told end broken
check_told (asks action line f a rest) broken = check_told rest broken

end_breaks : (end : Next) (check : Check) → check_in (end_happens end) ≡ Some check → is_break end ≡ true
end_breaks (Act action line f) check told = absurd (let same : None ≡ Some check = told in cc)
end_breaks (Ended w) check told = absurd (let same : None ≡ Some check = told in cc)
end_breaks Blocked check told = absurd (let same : None ≡ Some check = told in cc)
end_breaks (Broken class line f) check told = refl

pub breaks_told : (r : Run) (check : Check) → check_in (happenings r) ≡ Some check → breaks r ≡ true
breaks_told (stops end) check told = end_breaks end check told
breaks_told (asks action line f a rest) check told = breaks_told rest check told

end_draws : (t : ℕ) (end : Next) → words_drawn t (end_happens end) ≡ []
end_draws t (Act action line f) = refl
end_draws t (Ended w) = refl
end_draws t Blocked = refl
end_draws t (Broken class line f) = refl

pub words_told : (r : Run) → words_drawn 0 (happenings r) ≡ drawn_words r
words_told (stops end) = end_draws 0 end
words_told (asks action line f a rest) = ap (words_given a) (words_told rest)

zero_not : (t : ℕ) → (0 == suc t) ≡ false
zero_not t = grind (arith, nat_tests)

pub others_draw : (r : Run) (t : ℕ) → words_drawn (suc t) (happenings r) ≡ []
others_draw (stops end) t = end_draws (suc t) end
others_draw (asks action line f a rest) t = ap (λ b. if b then words_given a (words_drawn (suc t) (happenings rest)) else words_drawn (suc t) (happenings rest)) (zero_not t) ∙ others_draw rest t

-- ---- the inputs with these words for thread 0

pub inputs_own : (words : List ℕ) → words_of (inputs_for words) 0 ≡ words
inputs_own [] = refl
inputs_own (w ∷ words) = refl

not_below : (t : ℕ) → nat_lt (suc t) 0 ≡ false
not_below t = grind (arith, nat_tests)

not_zero : (t : ℕ) → (suc t == 0) ≡ false
not_zero t = grind (arith, nat_tests)

pub inputs_others : (words : List ℕ) (t : ℕ) → words_of (inputs_for words) (suc t) ≡ []
inputs_others [] t = refl
inputs_others (w ∷ words) t = simp (not_below t, not_zero t)

pub are_drawn : (r : Run) → AreDrawn (inputs_for (drawn_words r)) (happenings r)
are_drawn r zero = inputs_own (drawn_words r) ∙ sym (words_told r)
are_drawn r (suc t) = inputs_others (drawn_words r) t ∙ sym (others_draw r t)
