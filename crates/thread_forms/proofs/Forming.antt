-- A form's thread from its start, and why no two forms whose threads are created have one number.
use Rattle.std.proofs.Common.{◌≡◌, ◌<◌, ℕ, zero, suc, Bool, true, false, cond, List, [], ◌∷◌, ◌⊎◌, inl, inr, refl, sym, ap, subst, ◌∙◌, arith, true≢false}
use Rattle.actions.specs.declared.action.Action.TheVariants.{Create}
use Rattle.actions.specs.declared.action.Answer.{Answer}
use Rattle.actions.specs.declared.action.Answer.TheVariants as answer
use Rattle.actions.specs.declared.action.Next.{Next}
use Rattle.actions.specs.declared.action.Next.TheVariants.{Act}
use Rattle.actions.specs.Behaviour.{Thread}
use Rattle.actions.specs.Objects.{Objects}
use Rattle.actions.specs.Memory.{starts}
use Rattle.actions.specs.Row.{outcome_in}
use Rattle.interleave.specs.World.{Member, no_counts, child}
use Rattle.weave.specs.Step.{row_by, change_by}
use Rattle.weave.specs.Candidate.{Candidate, In, change_at}
use Rattle.weave.specs.Consistent.{main_member, IsRun}
use Rattle.weave.specs.Family.{IsFamily}
use Rattle.weave.proofs.Local.{IsGood, good_main, good_child}
use Rattle.weave.proofs.Numbering.{StandsAt, stands, IsNumbered, numbered, both}
use Rattle.thread_forms.specs.Forms.{Valuation, Told, asks, Name, Forms, names, number, begins, begun, number_told, IsCreating, AreForms}
use Rattle.thread_forms.specs.Valued.{Marks, taken, turns, keep, there, candidate, IsTaken, next_told, own_told}
use Rattle.thread_forms.specs.Meets.{Orders}
use Rattle.thread_forms.proofs.Prefixes.{run_from}

pub kept_in : (f : Name → Bool) (xs : List Name) (x : Name) → f x ≡ true → In x xs → In x (keep f xs)
kept_in f [] x e i = absurd i
kept_in f (y ∷ ys) x e i = by (f y) refl i (kept_in f ys x e)
  where
    by : (b : Bool) → f y ≡ b → (x ≡ y) ⊎ In x ys → (In x ys → In x (keep f ys)) → In x (cond b (y ∷ keep f ys) (keep f ys))
    by true q (inl r) h = inl r
    by true q (inr j) h = inr (h j)
    by false q (inl r) h = absurd (true≢false (sym e ∙ ap f r ∙ q))
    by false q (inr j) h = h j

-- what a creator tells
pub record IsCreator (d : Told) : Type 0 where
  pub function : ℕ
  pub value : ℕ
  pub line : ℕ
  pub within : ℕ
  pub number : ℕ
  pub tells : d ≡ asks (Act (Create function value) line within) (answer.Number number)

creator_by : (next : Next) (a : Answer) → IsCreating (asks next a) → IsCreator (asks next a)
creator_by (Act (Create f w) line within) (answer.Number n) h = record { function = f; value = w; line = line; within = within; number = n; tells = refl }
creator_by _ _ h = absurd h

pub creator_of : (d : Told) → IsCreating d → IsCreator d
creator_of (asks next a) h = creator_by next a h
creator_of _ h = absurd h

module _ (t : Thread) (objects : Objects) (F : Forms) (v : Valuation) (m : Marks) (family : IsFamily t) (forms : AreForms t F) (orders : Orders F v m objects) where
  abbrev c : Candidate Name
  c = candidate F v m

  abbrev pub start : ℕ → Member
  start zero = main_member t objects
  start (suc i) = record { thread = record { behaves = begins F t v (suc i); program = t.program }; counts = no_counts }

  pub run_of : (i : ℕ) → i < F.many → IsRun c (start i) (turns F v m i)
  run_of zero b = run_from F v m objects orders zero b (F.events zero) 0 (λ x k. k) (start zero) (forms.gives v zero b) (orders.numbers zero b)
  run_of (suc i) b = run_from F v m objects orders (suc i) b (F.events (suc i)) 0 (λ x k. k) (start (suc i)) (forms.gives v (suc i) b) (orders.numbers (suc i) b)

  pub creator_here : (i : ℕ) → suc i < F.many → IsCreator ((F.creator i).event.told v)
  creator_here i b = creator_of ((F.creator i).event.told v) (forms.creating i b v)

  pub creator_taken : (i : ℕ) → suc i < F.many → there F v m (suc i) ≡ true → IsTaken F v m (F.creator i)
  creator_taken i b h = record { form = omega (arith, forms.earlier i); listed = forms.placed i b; taken_there = h }

  pub listed_turn : (x : Name) → IsTaken F v m x → In x (turns F v m x.form)
  listed_turn x k = kept_in (taken F v m) (names F x.form) x k.taken_there k.listed

  there_by : (x : Name) → IsTaken F v m x → (i : ℕ) → x.form ≡ i → there F v m i ≡ true
  there_by x k zero q = refl
  there_by x k (suc i) q = (orders.created i x q k).0

  pub there_of : (x : Name) → IsTaken F v m x → there F v m x.form ≡ true
  there_of x k = there_by x k x.form refl

  pub child_same : (d : Told) (r : IsCreator d) → child (main_member t objects) r.function r.value ≡ record { thread = record { behaves = begun t d; program = t.program }; counts = no_counts }
  child_same d r = λ i. record { thread = record { behaves = begun t (sym r.tells i); program = t.program }; counts = no_counts }

  good_by : (n : ℕ) (i : ℕ) → i < n → i < F.many → there F v m i ≡ true → IsGood t (start i)
  good_by zero i l b h = absurd (omega arith)
  good_by (suc n) zero l b h = good_main t family objects
  good_by (suc n) (suc i) l b h =
      let x : Name = F.creator i in
      let k : IsTaken F v m (F.creator i) = creator_taken i b h in
      let r : IsCreator ((F.creator i).event.told v) = creator_here i b in
      let g : IsGood t (start (F.creator i).form) = good_by n (F.creator i).form (omega (arith, forms.earlier i)) k.form (there_of (F.creator i) k) in
      let s : StandsAt c t (F.creator i) = stands c t (turns F v m (F.creator i).form) (start (F.creator i).form) (F.creator i) g (run_of (F.creator i).form k.form) (listed_turn (F.creator i) k) in
      subst (IsGood t) (child_same ((F.creator i).event.told v) r) (good_child t family s.member (main_member t objects) r.function r.value r.line r.within (s.asks ∙ ap next_told r.tells) s.good refl)

  pub good_of : (i : ℕ) → i < F.many → there F v m i ≡ true → IsGood t (start i)
  good_of i b h = good_by (suc i) i (omega arith) b h

  pub creates_here : (i : ℕ) (r : IsCreator ((F.creator i).event.told v)) → change_at c (F.creator i) ≡ starts (number F v (suc i)) r.function r.value
  creates_here i r =
      ap (λ (d : Told). change_by (outcome_in (c.view (F.creator i)) (row_by (c.thread (F.creator i)) (own_told d) (next_told d)))) r.tells
      ∙ ap (λ (k : ℕ). starts k r.function r.value) (sym (ap number_told r.tells))

  numbered_here : (i : ℕ) (b : suc i < F.many) → there F v m (suc i) ≡ true → IsNumbered c t (start (F.creator i).form).counts.creations (F.creator i) (number F v (suc i))
  numbered_here i b h =
      let k : IsTaken F v m (F.creator i) = creator_taken i b h in
      let r : IsCreator ((F.creator i).event.told v) = creator_here i b in
      numbered c t (turns F v m (F.creator i).form) (start (F.creator i).form) (F.creator i) (number F v (suc i)) (good_of (F.creator i).form k.form (there_of (F.creator i) k)) (run_of (F.creator i).form k.form) (listed_turn (F.creator i) k)
      (r.function, r.value, creates_here i r)

  -- no two created forms have one number
  one_by : (n i j : ℕ) → i < n → i < F.many → j < F.many → there F v m i ≡ true → there F v m j ≡ true → number F v i ≡ number F v j → i ≡ j
  one_by zero i j l b d h k q = absurd (omega arith)
  one_by (suc n) zero zero l b d h k q = refl
  one_by (suc n) zero (suc j) l b d h k q = let r = numbered_here j d k in absurd (omega (arith, r.number, r.over, q))
  one_by (suc n) (suc i) zero l b d h k q = let r = numbered_here i b h in absurd (omega (arith, r.number, r.over, q))
  one_by (suc n) (suc i) (suc j) l b d h k q =
      let x : IsTaken F v m (F.creator i) = creator_taken i b h in
      let y : IsTaken F v m (F.creator j) = creator_taken j d k in
      let r = numbered_here i b h in
      let s = numbered_here j d k in
      let parents : number F v (F.creator i).form ≡ number F v (F.creator j).form = omega (arith, r.number, s.number, r.below, s.below, q) in
      let form : (F.creator i).form ≡ (F.creator j).form =
      one_by n (F.creator i).form (F.creator j).form (omega (arith, forms.earlier i)) x.form y.form (there_of (F.creator i) x) (there_of (F.creator j) y) parents in
      let g = good_of (F.creator i).form x.form (there_of (F.creator i) x) in
      let p = creator_here i b in
      let u = creator_here j d in
      let same : F.creator i ≡ F.creator j =
      both c t (turns F v m (F.creator i).form) (start (F.creator i).form) (F.creator i) (F.creator j) (number F v (suc i)) g (run_of (F.creator i).form x.form) (listed_turn (F.creator i) x)
      (subst (λ (f : ℕ). In (F.creator j) (turns F v m f)) (sym form) (listed_turn (F.creator j) y)) parents (p.function, p.value, creates_here i p)
      (u.function, u.value, creates_here j u ∙ ap (λ (z : ℕ). starts z u.function u.value) (sym q)) in
      ap suc (forms.once i j b d same)

  pub one_form : (i j : ℕ) → i < F.many → j < F.many → there F v m i ≡ true → there F v m j ≡ true → number F v i ≡ number F v j → i ≡ j
  one_form i j b d h k q = one_by (suc i) i j (omega arith) b d h k q
