-- The events of a script's steps tell what its thread does, and each of its local runs is told by them.
use Rattle.std.proofs.Common.{◌≡◌, ◌<◌, ◌+◌, ◌^◌, ℕ, zero, suc, Bool, true, false, not, ◌&&◌, cond, List, [], ◌∷◌, length, drop, Option, Some, None, slice_get, nat_lt, nat_eq, inl, inr, refl, sym, ap, subst, ◌∙◌, arith, true≢false}
use Rattle.std.specs.Prelude.{◌==◌}
use Rattle.std.proofs.lemmas.Bool.{eqb-true}
use Rattle.words.specs.BitVector.{BitVector}
use Rattle.actions.specs.declared.action.Action.TheVariants as action
use Rattle.actions.specs.declared.action.Answer.{Answer}
use Rattle.actions.specs.declared.action.Answer.TheVariants as answer
use Rattle.actions.specs.declared.action.Next.{Next}
use Rattle.actions.specs.declared.action.Next.TheVariants.{Act, Ended, Blocked, Broken}
use Rattle.actions.specs.ByteList.{are_bytes}
use Rattle.actions.specs.Behaviour.{Behaviour, after, Shape, nothing, bytes, size, word as bits, number, value, shape_of, has_shape, accepts, word_64}
use Rattle.actions.specs.ByStates.{behaviour_of}
use Rattle.actions.specs.LocalRun.{Exchange, IsLocalRun}
use Rattle.interleave.specs.declared.script.Step.{Step}
use Rattle.interleave.specs.declared.script.Step.TheVariants as step
use Rattle.interleave.specs.Script.{next_at_step, next_by, next_in, stepped, received, ended_by}
use Rattle.weave.specs.Candidate.{In}
use Rattle.thread_forms.specs.Forms.{Valuation, Name, named, goes_by, Goes, heard_if, heard, begins_by, ends_with, Begins, IsStopped, SameEvent}
use Rattle.thread_forms.specs.ScriptForms.{answer_in, answer_by, told_by, is_last, until_last, events_from}
use Rattle.thread_forms.proofs.Values.{front}

-- ---- the number that stands for an answer

abbrev pub code : Answer → ℕ
code (answer.Bytes []) = 0
code (answer.Bytes (b ∷ bs)) = b
code (answer.Size n) = n
code (answer.Word w) = w.bits
code (answer.Number n) = n
code (answer.Value n) = n
code _ = 0

abbrev pub IsSimple : Shape → Type 0
IsSimple (bytes n) = n ≡ 1
IsSimple _ = Unit {0}

one_byte : (bs : List ℕ) → length bs ≡ 1 → answer.Bytes (code (answer.Bytes bs) ∷ []) ≡ answer.Bytes bs
one_byte [] e = absurd (omega arith)
one_byte (b ∷ []) e = refl
one_byte (b ∷ c ∷ bs) e = absurd (omega arith)

decode : (shape : Shape) (a : Answer) → IsSimple shape → has_shape shape a ≡ true → answer_in shape (code a) ≡ a
decode nothing answer.Done s e = refl
decode (bytes n) (answer.Bytes bs) s e = one_byte bs (eqb-true (length bs) n (front (length bs == n) (are_bytes bs) e) ∙ s)
decode size (answer.Size n) s e = refl
decode (bits width) (answer.Word w) s e = let same : w.width ≡ width = eqb-true w.width width (front (nat_eq w.width width) (nat_lt w.bits (2 ^ width)) e) in λ i. answer.Word (record { bits = w.bits; width = sym same i })
decode number (answer.Number n) s e = refl
decode value (answer.Value n) s e = refl
decode nothing (answer.Bytes bs) s e = absurd (true≢false (sym e))
decode nothing (answer.Size n) s e = absurd (true≢false (sym e))
decode nothing (answer.Word w) s e = absurd (true≢false (sym e))
decode nothing (answer.Number n) s e = absurd (true≢false (sym e))
decode nothing (answer.Value n) s e = absurd (true≢false (sym e))
decode (bytes n) answer.Done s e = absurd (true≢false (sym e))
decode (bytes n) (answer.Size k) s e = absurd (true≢false (sym e))
decode (bytes n) (answer.Word w) s e = absurd (true≢false (sym e))
decode (bytes n) (answer.Number k) s e = absurd (true≢false (sym e))
decode (bytes n) (answer.Value k) s e = absurd (true≢false (sym e))
decode size answer.Done s e = absurd (true≢false (sym e))
decode size (answer.Bytes bs) s e = absurd (true≢false (sym e))
decode size (answer.Word w) s e = absurd (true≢false (sym e))
decode size (answer.Number k) s e = absurd (true≢false (sym e))
decode size (answer.Value k) s e = absurd (true≢false (sym e))
decode (bits width) answer.Done s e = absurd (true≢false (sym e))
decode (bits width) (answer.Bytes bs) s e = absurd (true≢false (sym e))
decode (bits width) (answer.Size k) s e = absurd (true≢false (sym e))
decode (bits width) (answer.Number k) s e = absurd (true≢false (sym e))
decode (bits width) (answer.Value k) s e = absurd (true≢false (sym e))
decode number answer.Done s e = absurd (true≢false (sym e))
decode number (answer.Bytes bs) s e = absurd (true≢false (sym e))
decode number (answer.Size k) s e = absurd (true≢false (sym e))
decode number (answer.Word w) s e = absurd (true≢false (sym e))
decode number (answer.Value k) s e = absurd (true≢false (sym e))
decode value answer.Done s e = absurd (true≢false (sym e))
decode value (answer.Bytes bs) s e = absurd (true≢false (sym e))
decode value (answer.Size k) s e = absurd (true≢false (sym e))
decode value (answer.Word w) s e = absurd (true≢false (sym e))
decode value (answer.Number k) s e = absurd (true≢false (sym e))

abbrev IsSimpleNext : Next → Type 0
IsSimpleNext (Act action line function) = IsSimple (shape_of action)
IsSimpleNext _ = Unit {0}

decode_next : (n : Next) (a : Answer) → IsSimpleNext n → accepts n a ≡ true → answer_by n (code a) ≡ a
decode_next (Act action line function) a s e = decode (shape_of action) a s e
decode_next (Ended v) a s e = absurd (true≢false (sym e))
decode_next Blocked a s e = absurd (true≢false (sym e))
decode_next (Broken c line function) a s e = absurd (true≢false (sym e))

create_simple : (b : Bool) (f : ℕ) → IsSimpleNext (cond b (Act (action.Create f 0) 1 0) Blocked)
create_simple true f = tt
create_simple false f = tt

assert_simple : (b : Bool) → IsSimpleNext (cond b (Act (action.Free 0) 1 0) (Broken Rattle.words.specs.declared.check.Class.TheVariants.Assertion 1 0))
assert_simple true = tt
assert_simple false = tt

simple_step : (many register : ℕ) (s : Step) → IsSimpleNext (next_at_step many register s)
simple_step many register (step.Read p) = refl
simple_step many register (step.Create f) = create_simple (nat_lt f many) f
simple_step many register (step.Assert n) = assert_simple (nat_eq register n)
simple_step many register _ = tt

-- ---- what is told of one step

goes_told : (n : Next) (m : ℕ) (b : Behaviour) (rest : Behaviour → Type 0) → b [] ≡ n → rest (after b (answer_by n m)) → goes_by true (told_by n m) b rest
goes_told (Act action line function) m b rest e h = (e, h)
goes_told (Ended v) m b rest e h = e
goes_told Blocked m b rest e h = e
goes_told (Broken c line function) m b rest e h = e

begins_none : (n : Next) (m : ℕ) (next : Next) (rest : List Exchange → Type 0) → n ≡ next → begins_by (told_by n m) [] next rest
begins_none (Act action line function) m next rest e = e
begins_none (Ended v) m next rest e = (e, tt)
begins_none Blocked m next rest e = (e, tt)
begins_none (Broken c line function) m next rest e = (e, tt)

begins_asks : (n : Next) (m : ℕ) (y : Exchange) (run : List Exchange) (next : Next) (rest : List Exchange → Type 0) → n ≡ Act y.action y.line y.function → answer_by n m ≡ y.answer → rest run → begins_by (told_by n m) (y ∷ run) next rest
begins_asks (Act action line function) m y run next rest e q h = (e, q, h)
begins_asks (Ended v) m y run next rest e q h = absurd (cc e)
begins_asks Blocked m y run next rest e q h = absurd (cc e)
begins_asks (Broken c line function) m y run next rest e q h = absurd (cc e)

last_ends : (s : Step) → is_last s ≡ true → (v : ℕ) × (ended_by (Some s) ≡ Some v)
last_ends (step.End v) e = (v, refl)
last_ends step.Exit e = (0, refl)
last_ends _ e = absurd (true≢false (sym e))

goes_on : (s : Step) → is_last s ≡ false → ended_by (Some s) ≡ None
goes_on (step.End v) e = absurd (true≢false e)
goes_on step.Exit e = absurd (true≢false e)
goes_on _ e = refl

-- ---- the items of a list behind its first ones

abbrev first_item : List Step → Option Step
first_item [] = None
first_item (s ∷ ss) = Some s

item_is : (k : ℕ) (xs ys : List Step) → drop k xs ≡ ys → slice_get xs k ≡ first_item ys
item_is zero [] ys e = ap first_item e
item_is zero (x ∷ xs) ys e = ap first_item e
item_is (suc k) [] ys e = ap first_item e
item_is (suc k) (x ∷ xs) ys e = item_is k xs ys e

tail_is : (k j : ℕ) (xs : List Step) (y : Step) (ys : List Step) → j ≡ suc k → drop k xs ≡ y ∷ ys → drop j xs ≡ ys
tail_is k zero xs y ys q e = absurd (omega (arith, q))
tail_is zero (suc j) [] y ys q e = absurd (cc e)
tail_is zero (suc j) (x ∷ xs) y ys q e = ap (λ (n : ℕ). drop n xs) (let z : j ≡ zero = omega (arith, q) in z) ∙ cc e
tail_is (suc k) (suc j) [] y ys q e = absurd (cc e)
tail_is (suc k) (suc j) (x ∷ xs) y ys q e = tail_is k j xs y ys (omega (arith, q)) e

module _ (steps : List Step) where
  abbrev many : ℕ
  many = length steps

  abbrev pub runs : ℕ → ℕ → Behaviour
  runs k r = behaviour_of (next_in steps) (stepped steps) (record { at = k; register = r; ended = None })

  -- these are the steps of a thread from k on, up to its last
  abbrev Behind : Bool → List Step → Type 0 → Type 0
  Behind true ss rest = ss ≡ []
  Behind false ss rest = rest

  abbrev pub Stands : ℕ → List Step → Type 0
  Stands k [] = slice_get steps k ≡ None
  Stands k (s ∷ ss) = (slice_get steps k ≡ Some s) × Behind (is_last s) ss (Stands (k + 1) ss)

  behind_by : (b : Bool) (ss : List Step) (k : ℕ) → Stands k ss → Behind b (cond b [] ss) (Stands k (cond b [] ss))
  behind_by true ss k h = refl
  behind_by false ss k h = h

  stands_from : (xs : List Step) (k : ℕ) → drop k steps ≡ xs → Stands k (until_last xs)
  stands_from [] k e = item_is k steps [] e
  stands_from (x ∷ xs) k e = (item_is k steps (x ∷ xs) e, behind_by (is_last x) (until_last xs) (k + 1) (stands_from xs (k + 1) (tail_is k (k + 1) steps x xs (omega arith) e)))

  pub stands_body : (f : ℕ) → Stands f (until_last (drop f steps))
  stands_body f = stands_from (drop f steps) f refl

  next_is : (k r : ℕ) (o : Option Step) → slice_get steps k ≡ o → runs k r [] ≡ next_by many r None o
  next_is k r o e = ap (λ (x : Option Step). next_by many r None x) e

  blocked_at : (k r : ℕ) → slice_get steps k ≡ None → runs k r [] ≡ Blocked
  blocked_at k r e = next_is k r None e

  next_here : (k r : ℕ) (s : Step) → slice_get steps k ≡ Some s → runs k r [] ≡ next_at_step many r s
  next_here k r s e = next_is k r (Some s) e

  module _ (k r : ℕ) (s : Step) (here : slice_get steps k ≡ Some s) where
    abbrev n : Next
    n = next_at_step many r s

    accepted_is : (a : Answer) (b : Bool) → accepts n a ≡ b → accepts (runs k r []) a ≡ b
    accepted_is a b e = ap (λ (x : Next). accepts x a) (next_here k r s here) ∙ e

    goes_after : (a : Answer) → accepts n a ≡ true → is_last s ≡ false → after (runs k r) a ≡ runs (k + 1) (received a r)
    goes_after a e l =
        let taken : accepts (runs k r []) a ≡ true = accepted_is a true e in
        let none : ended_by (slice_get steps k) ≡ None = ap ended_by here ∙ goes_on s l in
        λ i answers. cond (taken i) (behaviour_of (next_in steps) (stepped steps) (record { at = k + 1; register = received a r; ended = none i }) answers) Blocked

    blocked_after : (a : Answer) → accepts n a ≡ false → after (runs k r) a [] ≡ Blocked
    blocked_after a e =
        let refused : accepts (runs k r []) a ≡ false = accepted_is a false e in
        λ i. cond (refused i) (behaviour_of (next_in steps) (stepped steps) (stepped steps (record { at = k; register = r; ended = None }) a) []) Blocked

    ended_after : (a : Answer) → accepts n a ≡ true → is_last s ≡ true → (w : BitVector) × (after (runs k r) a [] ≡ Ended w)
    ended_after a e l =
        let taken : accepts (runs k r []) a ≡ true = accepted_is a true e in
        let last = last_ends s l in
        let ended : ended_by (slice_get steps k) ≡ Some last.0 = ap ended_by here ∙ last.1 in
        (word_64 last.0, λ i. cond (taken i) (next_by many (received a r) (ended i) (slice_get steps (k + 1))) Blocked)

    stopped_after : (a : Answer) → (accepts n a && not (is_last s)) ≡ false → IsStopped (after (runs k r) a [])
    stopped_after a e = by (accepts n a) (is_last s) refl refl e
      where
        by : (x y : Bool) → accepts n a ≡ x → is_last s ≡ y → (x && not y) ≡ false → IsStopped (after (runs k r) a [])
        by false y p q z = subst IsStopped (sym (blocked_after a p)) tt
        by true true p q z = let w = ended_after a p q in subst IsStopped (sym w.1) tt
        by true false p q z = absurd (true≢false z)

  -- ---- under each valuation the events tell what the thread does

  never : (p q : Bool) → q ≡ true → (p && not q) ≡ false
  never true q e = ap not e
  never false q e = refl

  module _ (s : Step) (x : ℕ) (register : Valuation → ℕ) (goes : Valuation → Bool) where
    abbrev asked : Valuation → Next
    asked v = next_at_step many (register v) s

    abbrev said : Valuation → Answer
    said v = answer_by (next_at_step many (register v) s) (v x)

    abbrev pub more : Valuation → Bool
    more v = goes v && (accepts (next_at_step many (register v) s) (answer_by (next_at_step many (register v) s) (v x)) && not (is_last s))

    abbrev pub then : Valuation → ℕ
    then v = received (answer_by (next_at_step many (register v) s) (v x)) (register v)

    module _ (v : Valuation) (ss : List Step) (k : ℕ) (here : slice_get steps k ≡ Some s) where
      abbrev Rest : Behaviour → Type 0
      Rest c = Goes v c (events_from steps ss (suc x) then more)

      abbrev Recurs : Type 0
      Recurs = Stands (k + 1) ss → (c : Behaviour) → (more v ≡ true → c ≡ runs (k + 1) (then v)) → (more v ≡ false → IsStopped (c [])) → Rest c

      rest_by : Recurs → (l : Bool) → is_last s ≡ l → Behind l ss (Stands (k + 1) ss) → (c : Behaviour) → (more v ≡ true → is_last s ≡ false → c ≡ runs (k + 1) (then v)) → (more v ≡ false → IsStopped (c [])) → (is_last s ≡ true → IsStopped (c [])) → Rest c
      rest_by rec true l b c h f g = subst (λ (zs : List Step). Goes v c (events_from steps zs (suc x) then more)) (sym b) (g l)
      rest_by rec false l b c h f g = rec b c (λ e. h e l) f

      step_by : Recurs → Behind (is_last s) ss (Stands (k + 1) ss) → (b : Behaviour) → (goes v ≡ true → b ≡ runs k (register v)) → (goes v ≡ false → IsStopped (b [])) → (g : Bool) → goes v ≡ g → goes_by g (told_by (asked v) (v x)) b Rest
      step_by rec st b same stopped true e =
          let is_b : b ≡ runs k (register v) = same e in
          let step_on : after b (said v) ≡ after (runs k (register v)) (said v) = ap (λ (f : Behaviour). after f (said v)) is_b in
          let on : more v ≡ (accepts (asked v) (said v) && not (is_last s)) = ap (λ (g : Bool). g && (accepts (asked v) (said v) && not (is_last s))) e in
          goes_told (asked v) (v x) b Rest (ap (λ (f : Behaviour). f []) is_b ∙ next_here k (register v) s here)
          (rest_by rec (is_last s) refl st (after b (said v))
          (λ m l. step_on ∙ goes_after k (register v) s here (said v) (front (accepts (asked v) (said v)) (not (is_last s)) (sym on ∙ m)) l)
          (λ m. subst (λ (f : Behaviour). IsStopped (f [])) (sym step_on) (stopped_after k (register v) s here (said v) (sym on ∙ m)))
          (λ l. subst (λ (f : Behaviour). IsStopped (f [])) (sym step_on) (stopped_after k (register v) s here (said v) (never (accepts (asked v) (said v)) (is_last s) l))))
      step_by rec st b same stopped false e =
          let off : more v ≡ false = ap (λ (g : Bool). g && (accepts (asked v) (said v) && not (is_last s))) e in
          rest_by rec (is_last s) refl st b (λ m l. absurd (true≢false (sym m ∙ off))) (λ m. stopped e) (λ l. stopped e)

  pub gives_from : (v : Valuation) (ss : List Step) (k x : ℕ) (register : Valuation → ℕ) (goes : Valuation → Bool) (b : Behaviour) → Stands k ss → (goes v ≡ true → b ≡ runs k (register v)) → (goes v ≡ false → IsStopped (b []))
      → Goes v b (events_from steps ss x register goes)
  gives_from v [] k x register goes b st here stopped = by (goes v) refl
    where
      by : (g : Bool) → goes v ≡ g → IsStopped (b [])
      by true e = subst IsStopped (sym (ap (λ (f : Behaviour). f []) (here e) ∙ blocked_at k (register v) st)) tt
      by false e = stopped e
  gives_from v (s ∷ ss) k x register goes b st here stopped =
      step_by s x register goes v ss k st.0
      (λ more_stands c on off. gives_from v ss (k + 1) (suc x) (then s x register goes) (more s x register goes) c more_stands on off) st.1 b here stopped (goes v) refl

  -- ---- each local run is told

  abbrev pub code_at : List Exchange → ℕ → ℕ
  code_at [] j = 0
  code_at (y ∷ run) zero = code y.answer
  code_at (y ∷ run) (suc j) = code_at run j

  ended_run : (b : Behaviour) (run : List Exchange) (next : Next) → IsStopped (b []) → ((action : Rattle.actions.specs.declared.action.Action.Action) (line function : ℕ) → b [] ≡ Act action line function → ⊥) → IsLocalRun b run next → ends_with run next
  ended_run b [] next s a h = subst IsStopped h s
  ended_run b (y ∷ run) next s a h = a y.action y.line y.function h.0

  no_act : (n : Next) → IsStopped n → (action : Rattle.actions.specs.declared.action.Action.Action) (line function : ℕ) → n ≡ Act action line function → ⊥
  no_act n s action line function e = subst IsStopped e s

  module _ (s : Step) (x : ℕ) (register : Valuation → ℕ) (goes : Valuation → Bool) (w : Valuation) (ss : List Step) (k : ℕ) (here : slice_get steps k ≡ Some s) (on : goes w ≡ true) where
    abbrev TellsRest : List Exchange → Next → Type 0
    TellsRest run next = Begins run next (heard w (events_from steps ss (suc x) (then s x register goes) (more s x register goes)))

    abbrev Retells : List Exchange → Next → Type 0
    Retells run next = Stands (k + 1) ss → more s x register goes w ≡ true → IsLocalRun (runs (k + 1) (then s x register goes w)) run next → TellsRest run next

    tells_rest : (y : Exchange) (run : List Exchange) (next : Next) → said s x register goes w ≡ y.answer → accepts (asked s x register goes w) y.answer ≡ true → IsLocalRun (after (runs k (register w)) y.answer) run next → Retells run next
        → (l : Bool) → is_last s ≡ l → Behind l ss (Stands (k + 1) ss) → TellsRest run next
    tells_rest y run next q ok h rec true l b =
        let end = ended_after k (register w) s here y.answer ok l in
        let stopped : IsStopped (after (runs k (register w)) y.answer []) = subst IsStopped (sym end.1) tt in
        subst (λ (zs : List Step). Begins run next (heard w (events_from steps zs (suc x) (then s x register goes) (more s x register goes)))) (sym b) (ended_run (after (runs k (register w)) y.answer) run next stopped (no_act (after (runs k (register w)) y.answer []) stopped) h)
    tells_rest y run next q ok h rec false l b =
        let taken : accepts (asked s x register goes w) (said s x register goes w) ≡ true = ap (accepts (asked s x register goes w)) q ∙ ok in
        let going : more s x register goes w ≡ true = ap (λ (g : Bool). g && (accepts (asked s x register goes w) (said s x register goes w) && not (is_last s))) on ∙ ap (λ (g : Bool). g && not (is_last s)) taken ∙ ap not l in
        rec b going (subst (λ (f : Behaviour). IsLocalRun f run next) (ap (after (runs k (register w))) (sym q) ∙ goes_after k (register w) s here (said s x register goes w) taken l) h)

    tells_step : (run : List Exchange) (next : Next) → (w x ≡ code_at run 0) → IsLocalRun (runs k (register w)) run next → ((y : Exchange) (rest : List Exchange) → run ≡ y ∷ rest → Retells rest next) → Behind (is_last s) ss (Stands (k + 1) ss)
        → begins_by (told_by (asked s x register goes w) (w x)) run next (λ rest. TellsRest rest next)
    tells_step [] next q h rec b = begins_none (asked s x register goes w) (w x) next (λ rest. TellsRest rest next) (sym (next_here k (register w) s here) ∙ h)
    tells_step (y ∷ run) next q h rec b =
        let ok : accepts (asked s x register goes w) y.answer ≡ true = sym (accepted_is k (register w) s here y.answer (accepts (asked s x register goes w) y.answer) refl) ∙ h.1 in
        let answer_same : said s x register goes w ≡ y.answer = ap (answer_by (asked s x register goes w)) q ∙ decode_next (asked s x register goes w) y.answer (simple_step many (register w) s) ok in
        begins_asks (asked s x register goes w) (w x) y run next (λ rest. TellsRest rest next) (sym (next_here k (register w) s here) ∙ h.0) answer_same (tells_rest y run next answer_same ok h.2 (rec y run refl) (is_last s) refl b)

  tail_run : (y z : Exchange) (run rest : List Exchange) → y ∷ run ≡ z ∷ rest → run ≡ rest
  tail_run y z run rest e = cc e

  later_codes : (w : Valuation) (x : ℕ) (run : List Exchange) (y : Exchange) (rest : List Exchange) → ((j : ℕ) → w (x + j) ≡ code_at run j) → run ≡ y ∷ rest → (j : ℕ) → w (suc x + j) ≡ code_at rest j
  later_codes w x run y rest h e j = ap w (let z : suc x + j ≡ x + suc j = omega arith in z) ∙ h (suc j) ∙ ap (λ (r : List Exchange). code_at r (suc j)) e

  pub has_from : (w : Valuation) (ss : List Step) (k x : ℕ) (register : Valuation → ℕ) (goes : Valuation → Bool) (run : List Exchange) (next : Next) → Stands k ss → goes w ≡ true → ((j : ℕ) → w (x + j) ≡ code_at run j)
      → IsLocalRun (runs k (register w)) run next → Begins run next (heard w (events_from steps ss x register goes))
  has_from w [] k x register goes run next st on codes h =
      let stopped : IsStopped (runs k (register w) []) = subst IsStopped (sym (blocked_at k (register w) st)) tt in
      ended_run (runs k (register w)) run next stopped (no_act (runs k (register w) []) stopped) h
  has_from w (s ∷ ss) k x register goes run next st on codes h =
      subst (λ (b : Bool). Begins run next (heard_if b (told_by (asked s x register goes w) (w x)) ∷ heard w (events_from steps ss (suc x) (then s x register goes) (more s x register goes)))) (sym on)
      (tells_step s x register goes w ss k st.0 on run next (ap w (let z : x ≡ x + 0 = omega arith in z) ∙ codes 0) h
      (λ y rest e more_stands going more_run. has_from w ss (k + 1) (suc x) (then s x register goes) (more s x register goes) rest next more_stands going (later_codes w x run y rest codes e) more_run) st.1)

  -- ---- the events know no variable behind their own

  pub alone_from : (v w : Valuation) (ss : List Step) (x : ℕ) (register : Valuation → ℕ) (goes : Valuation → Bool) → register v ≡ register w → goes v ≡ goes w → ((y : ℕ) → y < x + length ss → v y ≡ w y)
      → (i n : ℕ) (z : Name) → In z (named i n (events_from steps ss x register goes)) → SameEvent v w z.event
  alone_from v w [] x register goes r g h i n z k = absurd k
  alone_from v w (s ∷ ss) x register goes r g h i n z (inl q) =
      let here : v x ≡ w x = h x (omega arith) in
      subst (λ (y : Name). SameEvent v w y.event) (sym q) (g, λ j. told_by (next_at_step many (r j) s) (here j))
  alone_from v w (s ∷ ss) x register goes r g h i n z (inr k) =
      let here : v x ≡ w x = h x (omega arith) in
      alone_from v w ss (suc x) (then s x register goes) (more s x register goes) (λ j. received (answer_by (next_at_step many (r j) s) (here j)) (r j))
      (λ j. g j && (accepts (next_at_step many (r j) s) (answer_by (next_at_step many (r j) s) (here j)) && not (is_last s))) (λ y l. h y (omega (arith, l))) i (suc n) z k
