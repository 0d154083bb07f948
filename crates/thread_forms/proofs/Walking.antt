-- What a form tells beside the events of its thread's run: which of them stands at each place.
use Rattle.std.proofs.Common.{◌≡◌, ◌<◌, ℕ, zero, suc, true, List, [], ◌∷◌, Option, Some, None, inl, inr, refl, sym, ap, subst, ◌∙◌, arith, true≢false}
use Rattle.actions.specs.declared.action.Action.TheVariants.{Exit}
use Rattle.actions.specs.declared.action.Answer.{Answer}
use Rattle.actions.specs.declared.action.Next.{Next}
use Rattle.actions.specs.declared.action.Next.TheVariants.{Act, Ended, Blocked, Broken}
use Rattle.actions.specs.Behaviour.{Behaviour, after, accepts}
use Rattle.actions.specs.LocalRun.{Exchange, IsLocalRun}
use Rattle.actions.specs.Memory.{Memory, Change}
use Rattle.actions.specs.Row.{Outcome, breaks, waits, moves, outcome_in}
use Rattle.interleave.specs.World.{Member}
use Rattle.weave.specs.Step.{row_by, told_by}
use Rattle.weave.specs.Candidate.{Candidate, In, outcome_at}
use Rattle.weave.specs.Consistent.{GoesOn, IsRun}
use Rattle.thread_forms.specs.Forms.{Told, passes, asks, stops, Begins, begins_by, ends_with}
use Rattle.thread_forms.specs.Valued.{is_turn, next_told}
use Rattle.thread_forms.specs.Meets.{GoesPast, Answers}

abbrev pub exchange : Next → Answer → Exchange
exchange (Act action line function) a = record { action = action; line = line; function = function; answer = a }
exchange _ a = record { action = Exit; line = 0; function = 0; answer = a }

abbrev pub exchanged : Outcome → Next → List Exchange → List Exchange
exchanged (breaks class) n rest = []
exchanged waits n rest = []
exchanged (moves a change) n rest = exchange n a ∷ rest

abbrev pub ended_by : Outcome → Next → (Answer → Next) → Next
ended_by (breaks class) n rest = n
ended_by waits n rest = n
ended_by (moves a change) n rest = rest a

local_step : (b : Behaviour) (n : Next) (o : Outcome) (m : Memory) (t own : ℕ) (es : List Exchange) (last : Answer → Next) → outcome_in m (row_by t own n) ≡ o → b [] ≡ n
    → ((a : Answer) (change : Change) → o ≡ moves a change → accepts n a ≡ true) → ((a : Answer) (change : Change) → o ≡ moves a change → IsLocalRun (after b a) es (last a)) → (o ≡ waits → ⊥)
    → IsLocalRun b (exchanged o n es) (ended_by o n last)
local_step b n (breaks class) m t own es last q e ok rest never = e
local_step b n waits m t own es last q e ok rest never = e
local_step b (Act action line function) (moves a change) m t own es last q e ok rest never = (e, ap (λ (n : Next). accepts n a) e ∙ ok a change refl, rest a change refl)
local_step b (Ended v) (moves a change) m t own es last q e ok rest never = absurd (cc q)
local_step b Blocked (moves a change) m t own es last q e ok rest never = absurd (cc q)
local_step b (Broken class line function) (moves a change) m t own es last q e ok rest never = absurd (cc q)

module _ {Id : Type 0} (d : Candidate Id) where
  abbrev pub exchanges : List Id → List Exchange
  exchanges [] = []
  exchanges (x ∷ xs) = exchanged (outcome_at d x) (d.next x) (exchanges xs)

  abbrev pub last_next : List Id → Behaviour → Next
  last_next [] b = b []
  last_next (x ∷ xs) b = ended_by (outcome_at d x) (d.next x) (λ a. last_next xs (after b a))

  abbrev pub Fit : Id → Type 0
  Fit x = (a : Answer) (change : Change) → outcome_at d x ≡ moves a change → accepts (d.next x) a ≡ true

  pub goes_moved : (o : Outcome) (xs : List Id) (rest : Answer → Type 0) (a : Answer) (change : Change) → GoesOn d o xs rest → o ≡ moves a change → rest a
  goes_moved (breaks class) xs rest a change h e = absurd (cc e)
  goes_moved waits xs rest a change h e = absurd h
  goes_moved (moves b other) xs rest a change h e = subst rest (answer_of e) h
    where
      answer_of : moves b other ≡ moves a change → b ≡ a
      answer_of r = cc r

  goes_no_wait : (o : Outcome) (xs : List Id) (rest : Answer → Type 0) → GoesOn d o xs rest → o ≡ waits → ⊥
  goes_no_wait (breaks class) xs rest h e = cc e
  goes_no_wait waits xs rest h e = h
  goes_no_wait (moves b other) xs rest h e = cc e

  pub local : (xs : List Id) (u : Member) → IsRun d u xs → ((x : Id) → In x xs → Fit x) → IsLocalRun u.thread.behaves (exchanges xs) (last_next xs u.thread.behaves)
  local [] u r fit = refl
  local (x ∷ xs) u r fit =
      local_step u.thread.behaves (d.next x) (outcome_at d x) (d.view x) (d.thread x) (d.own x) (exchanges xs) (λ a. last_next xs (after u.thread.behaves a)) refl r.0 (λ a change e. fit x (inl refl) a change e)
      (λ a change e. local xs (told_by [] u (d.next x) a) (goes_moved (outcome_at d x) xs (λ b. IsRun d (told_by [] u (d.next x) b) xs) a change r.2 e) (λ y i. fit y (inr i)))
      (λ e. goes_no_wait (outcome_at d x) xs (λ b. IsRun d (told_by [] u (d.next x) b) xs) r.2 e)

  -- ---- the event of the run that stands for what is told

  pub record Stands (t : Told) (x : Id) : Type 0 where
    pub turn : is_turn t ≡ true
    pub next : d.next x ≡ next_told t
    pub answers : Answers t (outcome_at d x)

  abbrev pub follows_by : Told → List Id → (List Id → Type 0) → Type 0
  follows_by passes xs rest = rest xs
  follows_by (asks n a) [] rest = Unit {0}
  follows_by (asks n a) (x ∷ xs) rest = Stands (asks n a) x × rest xs
  follows_by (stops n) [] rest = Unit {0}
  follows_by (stops n) (x ∷ xs) rest = Stands (stops n) x × rest xs

  abbrev pub Follows : List (Option Told) → List Id → Type 0
  Follows [] xs = xs ≡ []
  Follows (None ∷ hs) xs = Follows hs xs
  Follows (Some t ∷ hs) xs = follows_by t xs (λ rest. Follows hs rest)

  pub follows_none : (hs : List (Option Told)) → Follows hs []
  follows_none [] = refl
  follows_none (None ∷ hs) = follows_none hs
  follows_none (Some passes ∷ hs) = follows_none hs
  follows_none (Some (asks n a) ∷ hs) = tt
  follows_none (Some (stops n) ∷ hs) = tt

  ends_never : (n : Next) (o : Outcome) (m : Memory) (t own : ℕ) (es : List Exchange) (last : Answer → Next) → outcome_in m (row_by t own n) ≡ o → (o ≡ waits → ⊥) → ends_with (exchanged o n es) (ended_by o n last) → ⊥
  ends_never n waits m t own es last q never h = never refl
  ends_never n (moves a change) m t own es last q never h = h
  ends_never (Act action line function) (breaks class) m t own es last q never h = h
  ends_never (Ended v) (breaks class) m t own es last q never h = cc q
  ends_never Blocked (breaks class) m t own es last q never h = cc q
  ends_never (Broken own_class line function) (breaks class) m t own es last q never h = h

  asks_step : (n : Next) (a : Answer) (next : Next) (o : Outcome) (m : Memory) (t own : ℕ) (es : List Exchange) (last : Answer → Next) (rest : List Exchange → Next → Type 0) → outcome_in m (row_by t own next) ≡ o
      → begins_by (asks n a) (exchanged o next es) (ended_by o next last) (λ r. rest r (ended_by o next last)) → (o ≡ waits → ⊥)
      → (next ≡ n) × Answers (asks n a) o × ((b : Answer) (change : Change) → o ≡ moves b change → rest es (last b))
  asks_step n a next waits m t own es last rest q h never = absurd (never refl)
  asks_step n a next (breaks class) m t own es last rest q h never = (sym h, tt, λ b change e. absurd (cc e))
  asks_step n a (Act action line function) (moves b change) m t own es last rest q h never = (sym h.0, sym h.1, λ z other e. subst (λ (y : Answer). rest es (last y)) (answer_of z other e) h.2)
    where
      answer_of : (z : Answer) (other : Change) → moves b change ≡ moves z other → b ≡ z
      answer_of z other r = cc r
  asks_step n a (Ended v) (moves b change) m t own es last rest q h never = absurd (cc q)
  asks_step n a Blocked (moves b change) m t own es last rest q h never = absurd (cc q)
  asks_step n a (Broken class line function) (moves b change) m t own es last rest q h never = absurd (cc q)

  stops_step : (n : Next) (next : Next) (o : Outcome) (m : Memory) (t own : ℕ) (es : List Exchange) (last : Answer → Next) (rest : List Exchange → Type 0) → outcome_in m (row_by t own next) ≡ o
      → begins_by (stops n) (exchanged o next es) (ended_by o next last) rest → (o ≡ waits → ⊥) → (next ≡ n) × (is_turn (stops n) ≡ true) × Answers (stops n) o × ((a : Answer) (change : Change) → o ≡ moves a change → ⊥)
  stops_step n next waits m t own es last rest q h never = absurd (never refl)
  stops_step n next (moves b change) m t own es last rest q h never = absurd h
  stops_step (Act action line function) next (breaks class) m t own es last rest q h never = absurd h.1
  stops_step (Ended v) next (breaks class) m t own es last rest q h never = absurd (waits_not (sym (ap (λ (z : Next). outcome_in m (row_by t own z)) (sym h.0)) ∙ q))
    where
      waits_not : waits ≡ breaks class → ⊥
      waits_not e = cc e
  stops_step Blocked next (breaks class) m t own es last rest q h never = absurd (waits_not (ap (λ (z : Next). outcome_in m (row_by t own z)) h.0 ∙ q))
    where
      waits_not : waits ≡ breaks class → ⊥
      waits_not e = cc e
  stops_step (Broken own_class line function) next (breaks class) m t own es last rest q h never = (sym h.0, refl, tt, λ b change e. cc e)

  -- where the event moved, or else nothing is left
  pub goes_or : (P : List Id → Type 0) (o : Outcome) (xs : List Id) (rest : Answer → Type 0) → GoesOn d o xs rest → P [] → ((a : Answer) (change : Change) → o ≡ moves a change → rest a → P xs) → P xs
  goes_or P (breaks class) xs rest h z f = subst P (sym h) z
  goes_or P waits xs rest h z f = absurd h
  goes_or P (moves a change) xs rest h z f = f a change refl h

  pub follow : (hs : List (Option Told)) (xs : List Id) (u : Member) → IsRun d u xs → Begins (exchanges xs) (last_next xs u.thread.behaves) hs → Follows hs xs
  follow [] [] u r h = refl
  follow [] (x ∷ xs) u r h =
      absurd (ends_never (d.next x) (outcome_at d x) (d.view x) (d.thread x) (d.own x) (exchanges xs) (λ a. last_next xs (after u.thread.behaves a)) refl
      (λ e. goes_no_wait (outcome_at d x) xs (λ b. IsRun d (told_by [] u (d.next x) b) xs) r.2 e) h)
  follow (None ∷ hs) xs u r h = follow hs xs u r h
  follow (Some passes ∷ hs) xs u r h = follow hs xs u r h
  follow (Some (asks n a) ∷ hs) [] u r h = tt
  follow (Some (asks n a) ∷ hs) (x ∷ xs) u r h =
      let s = asks_step n a (d.next x) (outcome_at d x) (d.view x) (d.thread x) (d.own x) (exchanges xs) (λ b. last_next xs (after u.thread.behaves b)) (λ es next. Begins es next hs) refl h
      (λ e. goes_no_wait (outcome_at d x) xs (λ b. IsRun d (told_by [] u (d.next x) b) xs) r.2 e) in (
        record { turn = refl; next = s.0; answers = s.1 },
        goes_or (λ l. Follows hs l) (outcome_at d x) xs (λ b. IsRun d (told_by [] u (d.next x) b) xs) r.2 (follows_none hs) (λ b change e k. follow hs xs (told_by [] u (d.next x) b) k (s.2 b change e)),
      )
  follow (Some (stops n) ∷ hs) [] u r h = tt
  follow (Some (stops n) ∷ hs) (x ∷ xs) u r h =
      let s = stops_step n (d.next x) (outcome_at d x) (d.view x) (d.thread x) (d.own x) (exchanges xs) (λ b. last_next xs (after u.thread.behaves b)) (λ es. Begins es (last_next (x ∷ xs) u.thread.behaves) hs) refl h
      (λ e. goes_no_wait (outcome_at d x) xs (λ b. IsRun d (told_by [] u (d.next x) b) xs) r.2 e) in (
        record { turn = s.1; next = s.0; answers = s.2 },
        goes_or (λ l. Follows hs l) (outcome_at d x) xs (λ b. IsRun d (told_by [] u (d.next x) b) xs) r.2 (follows_none hs) (λ b change e k. absurd (s.3 b change e)),
      )

  -- ---- the event at a place

  abbrev pub first : List Id → Option Id
  first [] = None
  first (x ∷ xs) = Some x

  abbrev pub tail : List Id → List Id
  tail [] = []
  tail (x ∷ xs) = xs

  abbrev pub left : Told → List Id → List Id
  left passes xs = xs
  left (asks n a) xs = tail xs
  left (stops n) xs = tail xs

  abbrev pub walk : List (Option Told) → List Id → ℕ → Option Id
  walk [] xs k = None
  walk (None ∷ hs) xs zero = None
  walk (None ∷ hs) xs (suc k) = walk hs xs k
  walk (Some t ∷ hs) xs zero = first xs
  walk (Some t ∷ hs) xs (suc k) = walk hs (left t xs) k

  abbrev pub At : List (Option Told) → ℕ → Option Told → Type 0
  At [] k h = ⊥
  At (g ∷ hs) zero h = g ≡ h
  At (g ∷ hs) (suc k) h = At hs k h

  pub walk_none : (hs : List (Option Told)) (k : ℕ) → walk hs [] k ≡ None
  walk_none [] k = refl
  walk_none (None ∷ hs) zero = refl
  walk_none (None ∷ hs) (suc k) = walk_none hs k
  walk_none (Some t ∷ hs) zero = refl
  walk_none (Some passes ∷ hs) (suc k) = walk_none hs k
  walk_none (Some (asks n a) ∷ hs) (suc k) = walk_none hs k
  walk_none (Some (stops n) ∷ hs) (suc k) = walk_none hs k

  -- where the guard is false nothing stands
  pub walk_idle : (hs : List (Option Told)) (xs : List Id) (k : ℕ) → At hs k None → walk hs xs k ≡ None
  walk_idle [] xs k h = absurd h
  walk_idle (None ∷ hs) xs zero h = refl
  walk_idle (None ∷ hs) xs (suc k) h = walk_idle hs xs k h
  walk_idle (Some t ∷ hs) xs zero h = absurd (cc h)
  walk_idle (Some t ∷ hs) xs (suc k) h = walk_idle hs (left t xs) k h

  pub follows_left : (t : Told) (hs : List (Option Told)) (xs : List Id) → Follows (Some t ∷ hs) xs → Follows hs (left t xs)
  follows_left passes hs xs f = f
  follows_left (asks n a) hs [] f = follows_none hs
  follows_left (asks n a) hs (x ∷ xs) f = f.1
  follows_left (stops n) hs [] f = follows_none hs
  follows_left (stops n) hs (x ∷ xs) f = f.1

  -- the run of a rest
  abbrev pub Runs : List Id → Type 0
  Runs xs = (u : Member) × IsRun d u xs

  runs_tail : (xs : List Id) → Runs xs → Runs (tail xs)
  runs_tail [] r = r
  runs_tail (x ∷ xs) r = goes_or Runs (outcome_at d x) xs (λ b. IsRun d (told_by [] r.0 (d.next x) b) xs) r.1.2 (r.0, tt) (λ a change e k. (told_by [] r.0 (d.next x) a, k))

  runs_left : (t : Told) (xs : List Id) → Runs xs → Runs (left t xs)
  runs_left passes xs r = r
  runs_left (asks n a) xs r = runs_tail xs r
  runs_left (stops n) xs r = runs_tail xs r

  -- where a later event stands the thread has gone past this one
  abbrev IsPast : Told → Option Id → Type 0
  IsPast t o = (y : Id) × (o ≡ Some y) × GoesPast t (outcome_at d y)

  none_not : (z : Id) (o : Option Id) → o ≡ None → o ≡ Some z → ⊥
  none_not z o e f = cc (sym e ∙ f)

  asked_past : (n : Next) (a : Answer) (o : Outcome) (xs : List Id) (rest : Answer → Type 0) → GoesOn d o xs rest → (xs ≡ [] → ⊥) → GoesPast (asks n a) o
  asked_past n a (breaks class) xs rest h more = absurd (more h)
  asked_past n a waits xs rest h more = h
  asked_past n a (moves b change) xs rest h more = tt

  stopped_past : (n : Next) (next : Next) (m : Memory) (t own : ℕ) (o : Outcome) (xs : List Id) (rest : Answer → Type 0) → outcome_in m (row_by t own next) ≡ o → next ≡ n → is_turn (stops n) ≡ true → GoesOn d o xs rest → xs ≡ []
  stopped_past n next m t own (breaks class) xs rest q e b h = h
  stopped_past n next m t own waits xs rest q e b h = absurd h
  stopped_past (Broken class line function) next m t own (moves a change) xs rest q e b h = absurd (cc (sym (ap (λ (z : Next). outcome_in m (row_by t own z)) e) ∙ q))
  stopped_past (Act action line function) next m t own (moves a change) xs rest q e b h = absurd (true≢false (sym b))
  stopped_past (Ended v) next m t own (moves a change) xs rest q e b h = absurd (true≢false (sym b))
  stopped_past Blocked next m t own (moves a change) xs rest q e b h = absurd (true≢false (sym b))

  past_here : (t : Told) (hs : List (Option Told)) (xs : List Id) (z : Id) (k : ℕ) → Runs xs → Follows (Some t ∷ hs) xs → walk hs (left t xs) k ≡ Some z → IsPast t (first xs)
  past_here passes hs [] z k r f e = absurd (none_not z (walk hs [] k) (walk_none hs k) e)
  past_here passes hs (x ∷ xs) z k r f e = (x, refl, tt)
  past_here (asks n a) hs [] z k r f e = absurd (none_not z (walk hs [] k) (walk_none hs k) e)
  past_here (asks n a) hs (x ∷ xs) z k r f e =
      (x, refl, asked_past n a (outcome_at d x) xs (λ b. IsRun d (told_by [] r.0 (d.next x) b) xs) r.1.2 (λ q. none_not z (walk hs [] k) (walk_none hs k) (ap (λ (l : List Id). walk hs l k) (sym q) ∙ e)))
  past_here (stops n) hs [] z k r f e = absurd (none_not z (walk hs [] k) (walk_none hs k) e)
  past_here (stops n) hs (x ∷ xs) z k r f e =
      let q : xs ≡ [] = stopped_past n (d.next x) (d.view x) (d.thread x) (d.own x) (outcome_at d x) xs (λ b. IsRun d (told_by [] r.0 (d.next x) b) xs) refl f.0.next f.0.turn r.1.2 in
      absurd (none_not z (walk hs [] k) (walk_none hs k) (ap (λ (l : List Id). walk hs l k) (sym q) ∙ e))

  pub past : (hs : List (Option Told)) (xs : List Id) (j k : ℕ) (t : Told) (z : Id) → Runs xs → Follows hs xs → At hs j (Some t) → walk hs xs k ≡ Some z → j < k → IsPast t (walk hs xs j)
  past [] xs j k t z r f a e l = absurd a
  past (g ∷ hs) xs j zero t z r f a e l = absurd (omega arith)
  past (None ∷ hs) xs zero (suc k) t z r f a e l = absurd (cc a)
  past (None ∷ hs) xs (suc j) (suc k) t z r f a e l = past hs xs j k t z r f a e (omega arith)
  past (Some s ∷ hs) xs zero (suc k) t z r f a e l = subst (λ (y : Told). IsPast y (first xs)) (told_of a) (past_here s hs xs z k r f e)
    where
      told_of : Some s ≡ Some t → s ≡ t
      told_of q = cc q
  past (Some s ∷ hs) xs (suc j) (suc k) t z r f a e l = past hs (left s xs) j k t z (runs_left s xs r) (follows_left s hs xs f) a e (omega arith)
