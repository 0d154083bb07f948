-- Which watches stand on a literal after a clause was entered, or after one of its watches was moved.
use Rattle.std.proofs.Common.{◌≡◌, ◌≢◌, ℕ, ◌+◌, ◌*◌, ◌<◌, ◌≤◌, ◌⊎◌, inl, inr, Bool, true, false, List, [], ◌∷◌, ◌++◌, length, get_or, set, refl, sym, ap, ◌∙◌, subst, arith}
use Rattle.std.specs.Prelude.{Some, slice_get, if◌then◌else◌, Contains}
use Rattle.std.specs.List.{swap_remove}
use Rattle.std.proofs.lemmas.Bool.{cases_eq}
use Rattle.std.proofs.lemmas.Option.{slice_get_within}
use Rattle.std.proofs.lemmas.List.{get_or-set_same, get_or-set_other, length-set, length-append}
use Rattle.sat_form.specs.Satisfaction.{Literal, index_of, IsWithin, AreWithin}
use Rattle.sat_form.proofs.Within.{IsWithin-at, AreWithin-at}
use Rattle.sat_form.proofs.Propagation.{literal_cases}
use Rattle.cdcl_core.specs.declared.lists.Watch.{Watch}
use Rattle.cdcl_core.specs.declared.watches.Pair.{Pair}
use Rattle.cdcl_core.specs.Lists.{watches_of, with_watches, pushed, removed, IsEntered}
use Rattle.cdcl_core.specs.Watched.{Waits, IsListed, IsGood, AreListed, AreSingle}
use Rattle.cdcl_core.proofs.Places.{slice_get-one, slice_get-more, slice_get-new, slice_get-cases, slice_get-both_cases, slice_get-set_same, slice_get-set_other, StandsFrom, stands-swap_remove, from-swap_remove}

same_parts : (v w : ℕ) (a b : Bool) → 2 * v + (if a then 1 else 0) ≡ 2 * w + (if b then 1 else 0) → (v ≡ w) × (a ≡ b)
same_parts v w true true same = (omega arith, refl)
same_parts v w true false same = absurd (omega arith)
same_parts v w false true same = absurd (omega arith)
same_parts v w false false same = (omega arith, refl)

pub index_of-injective : (l m : Literal) → index_of l ≡ index_of m → l ≡ m
index_of-injective l m same =
    let parts : (l.variable ≡ m.variable) × (l.negated ≡ m.negated) = same_parts l.variable m.variable l.negated m.negated same in
    λ k. record { variable = parts.0 k; negated = parts.1 k }

index_below : (v n : ℕ) (b : Bool) → v < n → 2 * v + (if b then 1 else 0) < 2 * n
index_below v n true less = omega arith
index_below v n false less = omega arith

pub index_of-below : (l : Literal) (n k : ℕ) → l.variable < n → k ≡ 2 * n → index_of l < k
index_of-below l n k less is = subst (λ m. index_of l < m) (sym is) (index_below l.variable n l.negated less)

-- the watches on a literal after those on one were written
pub watches_of-same : (lists : List (List Watch)) (l : Literal) (ws : List Watch) → index_of l < length lists → watches_of (with_watches lists l ws) l ≡ ws
watches_of-same lists l ws room = get_or-set_same lists (index_of l) ws [] room

pub watches_of-other : (lists : List (List Watch)) (l m : Literal) (ws : List Watch) → m ≢ l → watches_of (with_watches lists l ws) m ≡ watches_of lists m
watches_of-other lists l m ws other = get_or-set_other lists (index_of l) (index_of m) ws [] (λ e. other (index_of-injective m l e))

-- one more watch
Waits-more : (f : ℕ) (ws vs : List Watch) (k : ℕ) → Waits f ws k → Waits f (ws ++ vs) k
Waits-more f ws vs k waits =
    record { place = waits.place; after = waits.after; watch = waits.watch; is = slice_get-more ws vs waits.place waits.watch waits.is; of = waits.of }

pub Waits-pushed : (lists : List (List Watch)) (l m : Literal) (w : Watch) (f k : ℕ) → index_of l < length lists → Waits f (watches_of lists m) k → Waits f (watches_of (pushed lists l w) m) k
Waits-pushed lists l m w f k room waits =
    elim (literal_cases m l) [
      | inl same ↦
          subst (λ (x : Literal). Waits f (watches_of (pushed lists l w) x) k) (sym same)
          (subst (λ (ws : List Watch). Waits f ws k) (sym (watches_of-same lists l (watches_of lists l ++ w ∷ []) room))
          (Waits-more f (watches_of lists l) (w ∷ []) k (subst (λ (x : Literal). Waits f (watches_of lists x) k) same waits)))
      | inr other ↦ subst (λ (ws : List Watch). Waits f ws k) (sym (watches_of-other lists l m (watches_of lists l ++ w ∷ []) other)) waits
    ]

pub Waits-new : (lists : List (List Watch)) (l : Literal) (w : Watch) → index_of l < length lists → Waits 0 (watches_of (pushed lists l w) l) w.number
Waits-new lists l w room =
    subst (λ (ws : List Watch). Waits 0 ws w.number) (sym (watches_of-same lists l (watches_of lists l ++ w ∷ []) room))
    (record { place = length (watches_of lists l); after = omega arith; watch = w; is = slice_get-new (watches_of lists l) w; of = refl })

pub from-pushed :
    (lists : List (List Watch)) (l m : Literal) (w x : Watch) (i : ℕ) → index_of l < length lists → slice_get (watches_of (pushed lists l w) m) i ≡ Some x →
    (slice_get (watches_of lists m) i ≡ Some x) ⊎ (x ≡ w)
from-pushed lists l m w x i room found =
    elim (literal_cases m l) [
      | inl same ↦
          let there : slice_get (watches_of lists l ++ w ∷ []) i ≡ Some x =
          ap (λ ws. slice_get ws i) (sym (watches_of-same lists l (watches_of lists l ++ w ∷ []) room))
          ∙ ap (λ (y : Literal). slice_get (watches_of (pushed lists l w) y) i) (sym same)
          ∙ found in
          elim (slice_get-cases (watches_of lists l) w x i there) [
            | inl old ↦ inl (ap (λ (y : Literal). slice_get (watches_of lists y) i) same ∙ old)
            | inr new ↦ inr new.1
          ]
      | inr other ↦ inl (ap (λ ws. slice_get ws i) (sym (watches_of-other lists l m (watches_of lists l ++ w ∷ []) other)) ∙ found)
    ]

-- more clauses
IsGood-more : (cs : List (List Literal)) (pairs : List Pair) (c : List Literal) (p : Pair) (w : Watch) → IsGood cs pairs w → IsGood (cs ++ c ∷ []) (pairs ++ p ∷ []) w
IsGood-more cs pairs c p w good =
    record {
      clause = good.clause;
      found = slice_get-more cs (c ∷ []) w.number good.clause good.found;
      pair = good.pair;
      watched = slice_get-more pairs (p ∷ []) w.number good.pair good.watched;
      apart = good.apart;
      blocks = good.blocks;
    }

length-append_one : {X : Type 0} → (xs : List X) (x : X) → length (xs ++ x ∷ []) ≡ length xs + 1
length-append_one xs x = length-append xs (x ∷ [])

-- a clause whose literals differ was entered
entered_apart :
    (n : ℕ) (cs : List (List Literal)) (pairs : List Pair) (lists : List (List Watch)) (c : List Literal) (p : Pair) → AreListed n cs pairs lists →
    p.first ≢ p.second → Contains c p.first → Contains c p.second → index_of p.first < length lists → index_of p.second < length lists →
    AreListed n (cs ++ c ∷ []) (pairs ++ p ∷ [])
    (pushed (pushed lists p.first (record { number = length pairs; blocker = p.second })) p.second (record { number = length pairs; blocker = p.first }))
entered_apart n cs pairs lists c p are apart first second room_first room_second =
    let w : Watch = record { number = length pairs; blocker = p.second } in
    let v : Watch = record { number = length pairs; blocker = p.first } in
    let one : List (List Watch) = pushed lists p.first w in
    let longer : length one ≡ length lists = length-set lists (index_of p.first) (watches_of lists p.first ++ w ∷ []) in
    let room : index_of p.second < length one = omega (arith, longer) in
    let keeps : (m : Literal) (f k : ℕ) → Waits f (watches_of lists m) k → Waits f (watches_of (pushed one p.second v) m) k =
    λ m f k waits. Waits-pushed one p.second m v f k room (Waits-pushed lists p.first m w f k room_first waits) in
    let is_new : (x : Watch) → x.number ≡ length pairs → Contains c x.blocker → IsGood (cs ++ c ∷ []) (pairs ++ p ∷ []) x =
    λ x number blocks. record {
      clause = c;
      found = ap (slice_get (cs ++ c ∷ [])) (number ∙ are.count) ∙ slice_get-new cs c;
      pair = p;
      watched = ap (slice_get (pairs ++ p ∷ [])) number ∙ slice_get-new pairs p;
      apart = apart;
      blocks = blocks;
    } in
    record {
      room = length-set one (index_of p.second) (watches_of one p.second ++ v ∷ []) ∙ longer ∙ are.room;
      count = length-append_one pairs p ∙ ap (λ k. k + 1) are.count ∙ sym (length-append_one cs c);
      listed = λ k d q found watched other.
          elim (slice_get-both_cases cs pairs c d p q k are.count found watched) [
            | inl old ↦
                let before : IsListed lists k d q = are.listed k d q old.0 old.1 other in
                record {
                  first = before.first;
                  second = before.second;
                  first_waits = keeps q.first 0 k before.first_waits;
                  second_waits = keeps q.second 0 k before.second_waits;
                }
            | inr new ↦
                let here : IsListed (pushed one p.second v) (length pairs) c p =
                record {
                  first = first;
                  second = second;
                  first_waits = Waits-pushed one p.second p.first v 0 (length pairs) room (Waits-new lists p.first w room_first);
                  second_waits = Waits-new one p.second v room;
                } in
                subst (λ i. IsListed (pushed one p.second v) i d q) (sym new.0)
                (subst (λ x. IsListed (pushed one p.second v) (length pairs) x q) (sym new.1)
                (subst (λ (x : Pair). IsListed (pushed one p.second v) (length pairs) c x) (sym new.2) here))
          ];
      good = λ l i x found.
          elim (from-pushed one p.second l v x i room found) [
            | inl older ↦ elim (from-pushed lists p.first l w x i room_first older) [
              | inl old ↦ IsGood-more cs pairs c p x (are.good l i x old)
              | inr new ↦ is_new x (ap (λ (y : Watch). y.number) new) (subst (λ (y : Watch). Contains c y.blocker) (sym new) second)
            ]
            | inr new ↦ is_new x (ap (λ (y : Watch). y.number) new) (subst (λ (y : Watch). Contains c y.blocker) (sym new) first)
          ];
    }

-- a clause without two different literals was entered
entered_same :
    (n : ℕ) (cs : List (List Literal)) (pairs : List Pair) (lists : List (List Watch)) (c : List Literal) (p : Pair) → AreListed n cs pairs lists →
    p.first ≡ p.second → AreListed n (cs ++ c ∷ []) (pairs ++ p ∷ []) lists
entered_same n cs pairs lists c p are same =
    record {
      room = are.room;
      count = length-append_one pairs p ∙ ap (λ k. k + 1) are.count ∙ sym (length-append_one cs c);
      listed = λ k d q found watched other.
          elim (slice_get-both_cases cs pairs c d p q k are.count found watched) [
            | inl old ↦ are.listed k d q old.0 old.1 other
            | inr new ↦ absurd (other (ap (λ (x : Pair). x.first) new.2 ∙ same ∙ sym (ap (λ (x : Pair). x.second) new.2)))
          ];
      good = λ l i x found. IsGood-more cs pairs c p x (are.good l i x found);
    }

-- a clause was entered
pub AreListed-entered :
    (n : ℕ) (cs : List (List Literal)) (pairs : List Pair) (lists new : List (List Watch)) (c : List Literal) (p : Pair) → AreListed n cs pairs lists →
    (p.first ≢ p.second → Contains c p.first) → (p.first ≢ p.second → Contains c p.second) →
    (p.first ≢ p.second → index_of p.first < length lists) → (p.first ≢ p.second → index_of p.second < length lists) →
    IsEntered lists (length pairs) p.first p.second new → AreListed n (cs ++ c ∷ []) (pairs ++ p ∷ []) new
AreListed-entered n cs pairs lists new c p are first second room_first room_second entered =
    elim (literal_cases p.first p.second) [
      | inl same ↦ subst (AreListed n (cs ++ c ∷ []) (pairs ++ p ∷ [])) (sym (entered.same same)) (entered_same n cs pairs lists c p are same)
      | inr apart ↦
          subst (AreListed n (cs ++ c ∷ []) (pairs ++ p ∷ [])) (sym (entered.apart apart))
          (entered_apart n cs pairs lists c p are apart (first apart) (second apart) (room_first apart) (room_second apart))
    ]

pub AreSingle-entered :
    (cs : List (List Literal)) (pairs : List Pair) (c : List Literal) (p : Pair) → length pairs ≡ length cs → AreSingle cs pairs →
    (p.first ≡ p.second → (m : Literal) → Contains c m → m ≡ p.first) → AreSingle (cs ++ c ∷ []) (pairs ++ p ∷ [])
AreSingle-entered cs pairs c p count are single = λ k d q found watched same.
    elim (slice_get-both_cases cs pairs c d p q k count found watched) [
      | inl old ↦ are k d q old.0 old.1 same
      | inr new ↦ λ m at.
          let first : p.first ≡ q.first = ap (λ (x : Pair). x.first) (sym new.2) in
          let equal : p.first ≡ p.second = first ∙ same ∙ ap (λ (x : Pair). x.second) new.2 in
          single equal m (subst (λ x. Contains x m) new.1 at) ∙ first
    ]

-- a literal of a clause within n variables has a list
pub IsWithin-contains : (n : ℕ) (c : List Literal) (l : Literal) → IsWithin n c → Contains c l → l.variable < n
IsWithin-contains n c l within at = subst (λ (x : Literal). x.variable < n) at.2 (IsWithin-at n c at.0 l within at.1)

pub room-contains : (n k : ℕ) (c : List Literal) (l : Literal) → k ≡ 2 * n → IsWithin n c → Contains c l → index_of l < k
room-contains n k c l is within at = index_of-below l n k (IsWithin-contains n c l within at) is

pub IsWithin-read : (n : ℕ) (cs : List (List Literal)) (k : ℕ) (c : List Literal) → AreWithin n cs → k < length cs → c ≡ get_or cs k c → IsWithin n c
IsWithin-read n cs k c within inside read = subst (IsWithin n) (sym read) (AreWithin-at n cs k c within inside)

-- a watch on l, of which the clause's literal `next` gets one instead
pub record IsMove (lists : List (List Watch)) (l : Literal) (at : ℕ) (w : Watch) (next : Literal) (v x : Watch) (new : List (List Watch)) : Type 0 where
  pub room : index_of l < length lists
  pub room_next : index_of next < length lists
  pub apart : next ≢ l
  pub stands : slice_get (watches_of lists l) at ≡ Some w
  pub is : new ≡ removed (pushed lists next v) l at x

length-moved : (lists : List (List Watch)) (l : Literal) (at : ℕ) (w : Watch) (next : Literal) (v x : Watch) (new : List (List Watch)) → IsMove lists l at w next v x new → length new ≡ length lists
length-moved lists l at w next v x new move =
    ap length move.is
    ∙ length-set (pushed lists next v) (index_of l) (swap_remove (watches_of (pushed lists next v) l) at x)
    ∙ length-set lists (index_of next) (watches_of lists next ++ v ∷ [])

pub watches_of-moved :
    (lists : List (List Watch)) (l : Literal) (at : ℕ) (w : Watch) (next : Literal) (v x : Watch) (new : List (List Watch)) → IsMove lists l at w next v x new →
    watches_of new l ≡ swap_remove (watches_of lists l) at x
watches_of-moved lists l at w next v x new move =
    let mid : List (List Watch) = pushed lists next v in
    let room : index_of l < length mid = subst (λ k. index_of l < k) (sym (length-set lists (index_of next) (watches_of lists next ++ v ∷ []))) move.room in
    ap (λ (y : List (List Watch)). watches_of y l) move.is
    ∙ watches_of-same mid l (swap_remove (watches_of mid l) at x) room
    ∙ ap (λ (ws : List Watch). swap_remove ws at x) (watches_of-other lists next l (watches_of lists next ++ v ∷ []) (λ e. move.apart (sym e)))

watches_of-moved_other :
    (lists : List (List Watch)) (l : Literal) (at : ℕ) (w : Watch) (next : Literal) (v x : Watch) (new : List (List Watch)) (m : Literal) → IsMove lists l at w next v x new →
    m ≢ l → watches_of new m ≡ watches_of (pushed lists next v) m
watches_of-moved_other lists l at w next v x new m move other =
    let mid : List (List Watch) = pushed lists next v in
    ap (λ (y : List (List Watch)). watches_of y m) move.is ∙ watches_of-other mid l m (swap_remove (watches_of mid l) at x) other

Waits-moved_other :
    (lists : List (List Watch)) (l : Literal) (at : ℕ) (w : Watch) (next : Literal) (v x : Watch) (new : List (List Watch)) (m : Literal) (f k : ℕ) → IsMove lists l at w next v x new →
    m ≢ l → Waits f (watches_of lists m) k → Waits f (watches_of new m) k
Waits-moved_other lists l at w next v x new m f k move other waits =
    subst (λ (ws : List Watch). Waits f ws k) (sym (watches_of-moved_other lists l at w next v x new m move other))
    (Waits-pushed lists next m v f k move.room_next waits)

-- another clause still waits
pub Waits-removed :
    (ws : List Watch) (at : ℕ) (w x : Watch) (f k : ℕ) → slice_get ws at ≡ Some w → f ≤ at → w.number ≢ k → Waits f ws k → Waits f (swap_remove ws at x) k
Waits-removed ws at w x f k stands low apart waits =
    let other : waits.place ≢ at =
    λ e. apart (ap (λ (y : Watch). y.number) (slice_get-one ws at w waits.watch stands (ap (slice_get ws) (sym e) ∙ waits.is)) ∙ waits.of) in
    let there : StandsFrom f (swap_remove ws at x) waits.watch =
    stands-swap_remove ws at f waits.place x waits.watch (slice_get_within ws at w stands) low waits.after other waits.is in
    record { place = there.place; after = there.after; watch = waits.watch; is = there.is; of = waits.of }

Waits-moved :
    (lists : List (List Watch)) (l : Literal) (at : ℕ) (w : Watch) (next : Literal) (v x : Watch) (new : List (List Watch)) (m : Literal) (k : ℕ) → IsMove lists l at w next v x new →
    w.number ≢ k → Waits 0 (watches_of lists m) k → Waits 0 (watches_of new m) k
Waits-moved lists l at w next v x new m k move apart waits =
    elim (literal_cases m l) [
      | inl same ↦
          subst (λ (y : Literal). Waits 0 (watches_of new y) k) (sym same)
          (subst (λ (ws : List Watch). Waits 0 ws k) (sym (watches_of-moved lists l at w next v x new move))
          (Waits-removed (watches_of lists l) at w x 0 k move.stands (omega arith) apart (subst (λ (y : Literal). Waits 0 (watches_of lists y) k) same waits)))
      | inr other ↦ Waits-moved_other lists l at w next v x new m 0 k move other waits
    ]

from-moved :
    (lists : List (List Watch)) (l : Literal) (at : ℕ) (w : Watch) (next : Literal) (v x : Watch) (new : List (List Watch)) (m : Literal) (i : ℕ) (y : Watch) → IsMove lists l at w next v x new →
    slice_get (watches_of new m) i ≡ Some y → StandsFrom 0 (watches_of lists m) y ⊎ (y ≡ v)
from-moved lists l at w next v x new m i y move found =
    elim (literal_cases m l) [
      | inl same ↦
          let there : slice_get (swap_remove (watches_of lists l) at x) i ≡ Some y =
          ap (λ ws. slice_get ws i) (sym (watches_of-moved lists l at w next v x new move)) ∙ ap (λ (z : Literal). slice_get (watches_of new z) i) (sym same) ∙ found in
          inl (subst (λ (z : Literal). StandsFrom 0 (watches_of lists z) y) (sym same)
          (from-swap_remove (watches_of lists l) at i x y (slice_get_within (watches_of lists l) at w move.stands) there))
      | inr other ↦
          elim (from-pushed lists next m v y i move.room_next (ap (λ ws. slice_get ws i) (sym (watches_of-moved_other lists l at w next v x new m move other)) ∙ found)) [
            | inl old ↦ inl (record { place = i; after = omega arith; is = old })
            | inr new ↦ inr new
          ]
    ]

IsGood-moved :
    (cs : List (List Literal)) (pairs : List Pair) (number : ℕ) (q : Pair) (w : Watch) → number < length pairs → q.first ≢ q.second → IsGood cs pairs w → IsGood cs (set pairs number q) w
IsGood-moved cs pairs number q w within apart good =
    elim (cases_eq w.number number) [
      | inl here ↦
          record {
            clause = good.clause;
            found = good.found;
            pair = q;
            watched = ap (slice_get (set pairs number q)) here ∙ slice_get-set_same pairs number q within;
            apart = apart;
            blocks = good.blocks;
          }
      | inr other ↦
          record {
            clause = good.clause;
            found = good.found;
            pair = good.pair;
            watched = slice_get-set_other pairs number w.number q other ∙ good.watched;
            apart = good.apart;
            blocks = good.blocks;
          }
    ]

-- the watched literals of the clause of a watch on l are two others now
pub record IsNewPair (cs : List (List Literal)) (lists : List (List Watch)) (l : Literal) (number : ℕ) (c : List Literal) (q : Pair) : Type 0 where
  pub found : slice_get cs number ≡ Some c
  pub first : Contains c q.first
  pub second : Contains c q.second
  pub apart : q.first ≢ q.second
  pub beside : q.first ≢ l
  pub waits : Waits 0 (watches_of lists q.first) number

pub AreListed-moved :
    (n : ℕ) (cs : List (List Literal)) (pairs : List Pair) (lists : List (List Watch)) (l : Literal) (at : ℕ) (w x : Watch) (c : List Literal) (q : Pair) (new : List (List Watch)) →
    AreListed n cs pairs lists → IsNewPair cs lists l w.number c q → IsMove lists l at w q.second (record { number = w.number; blocker = q.first }) x new →
    AreListed n cs (set pairs w.number q) new
AreListed-moved n cs pairs lists l at w x c q new are is_new move =
    let v : Watch = record { number = w.number; blocker = q.first } in
    let within : w.number < length pairs = subst (λ k. w.number < k) (sym are.count) (slice_get_within cs w.number c is_new.found) in
    let here : IsListed new w.number c q =
    record {
      first = is_new.first;
      second = is_new.second;
      first_waits = Waits-moved_other lists l at w q.second v x new q.first 0 w.number move is_new.beside is_new.waits;
      second_waits = subst (λ (ws : List Watch). Waits 0 ws w.number) (sym (watches_of-moved_other lists l at w q.second v x new q.second move move.apart))
          (Waits-new lists q.second v move.room_next);
    } in
    record {
      room = length-moved lists l at w q.second v x new move ∙ are.room;
      count = length-set pairs w.number q ∙ are.count;
      listed = λ k d p found watched other.
          elim (cases_eq k w.number) [
            | inl same ↦
                let clause : c ≡ d = slice_get-one cs w.number c d is_new.found (ap (slice_get cs) (sym same) ∙ found) in
                let pair : q ≡ p = slice_get-one (set pairs w.number q) w.number q p (slice_get-set_same pairs w.number q within) (ap (slice_get (set pairs w.number q)) (sym same) ∙ watched) in
                subst (λ i. IsListed new i d p) (sym same) (subst (λ y. IsListed new w.number y p) clause (subst (λ (y : Pair). IsListed new w.number c y) pair here))
            | inr apart ↦
                let before : IsListed lists k d p = are.listed k d p found (sym (slice_get-set_other pairs w.number k q apart) ∙ watched) other in
                record {
                  first = before.first;
                  second = before.second;
                  first_waits = Waits-moved lists l at w q.second v x new p.first k move (λ e. apart (sym e)) before.first_waits;
                  second_waits = Waits-moved lists l at w q.second v x new p.second k move (λ e. apart (sym e)) before.second_waits;
                }
          ];
      good = λ m i y found.
          elim (from-moved lists l at w q.second v x new m i y move found) [
            | inl old ↦ IsGood-moved cs pairs w.number q y within is_new.apart (are.good m old.place y old.is)
            | inr fresh ↦
                record {
                  clause = c;
                  found = ap (λ (z : Watch). slice_get cs z.number) fresh ∙ is_new.found;
                  pair = q;
                  watched = ap (λ (z : Watch). slice_get (set pairs w.number q) z.number) fresh ∙ slice_get-set_same pairs w.number q within;
                  apart = is_new.apart;
                  blocks = subst (λ (z : Watch). Contains c z.blocker) (sym fresh) is_new.first;
                }
          ];
    }
