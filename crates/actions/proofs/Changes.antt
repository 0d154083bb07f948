-- What a change doesn't write stays.
use Rattle.std.proofs.Common.{◌≡◌, ◌<◌, ◌≤◌, ◌+◌, ℕ, Bool, true, false, true≢false, cond, List, [], ◌∷◌, ◌++◌, length, take, drop, Option, Some, None, refl, sym, ap, ◌∙◌, arith, append_assoc, length-append, length-drop, nat_lt}
use Rattle.std.specs.Prelude.{IfSome}
use Rattle.std.proofs.lemmas.Bool.{ltb-true, ltb-false}
use Rattle.std.proofs.lemmas.List.{take-append-le, take-append-drop, length-take-le, drop-append-le}
use Rattle.std.proofs.lemmas.Slice.{drop-append-drop}
use Rattle.std.specs.Cmp.{ranked, nat_cmp_is}
use Rattle.std.specs.Ordering.{nat_cmp, is_eq, match_ordering}
use Rattle.std.specs.declared.cmp.Ordering.{Ordering}
use Rattle.std.specs.declared.cmp.Ordering.TheVariants.{Less, Equal, Greater}
use Rattle.std.specs.Map.{lookup, set_value}
use Rattle.std.specs.BTreeMap.{is_at, insert_entry}
use Rattle.actions.specs.ByteList.{put_at}
use Rattle.actions.specs.declared.thread_state.ThreadState.TheVariants.{Running, Ended}
use Rattle.actions.specs.Pointer.{object_of, offset_of}
use Rattle.actions.specs.StoredObject.{StoredObject, as_dead}
use Rattle.actions.specs.States.{state_of}
use Rattle.actions.specs.Objects.{Objects, object_at, changed_to, with_bytes, with_bytes_at, bytes_in}
use Rattle.actions.specs.Memory.{cell_bytes, Holds, IsWithin, Memory, Location, object, cell, thread, SameAt, Change, keeps, adds, kills, puts, starts, ends, changed, Writes, WritesAlone}

key_apart : (m n : ℕ) → (m ≡ n → ⊥) → is_at (nat_cmp m) n ≡ false
key_apart m n apart = by (nat_cmp m n) refl
  where
    by : (o : Ordering) → o ≡ nat_cmp m n → is_eq o ≡ false
    by Less e = refl
    by Equal e = absurd (apart (ranked m n Equal e))
    by Greater e = refl

key_refl : (m : ℕ) → is_at (nat_cmp m) m ≡ true
key_refl m = ap is_eq (sym (nat_cmp_is m m Equal refl))

key_same : (m n : ℕ) → is_at (nat_cmp m) n ≡ true → m ≡ n
key_same m n h = by (nat_cmp m n) refl h
  where
    by : (o : Ordering) → o ≡ nat_cmp m n → is_eq o ≡ true → m ≡ n
    by Less e h = absurd (true≢false (sym h))
    by Equal e h = ranked m n Equal e
    by Greater e h = absurd (true≢false (sym h))

module _ {X : Type 0} (m n : ℕ) (apart : m ≡ n → ⊥) where
  passed : (k : ℕ) (v w : X) (es fs : List (ℕ × X)) → n ≡ k → lookup (is_at (nat_cmp m)) es ≡ lookup (is_at (nat_cmp m)) fs
      → lookup (is_at (nat_cmp m)) ((k, v) ∷ es) ≡ lookup (is_at (nat_cmp m)) ((k, w) ∷ fs)
  passed k v w es fs e h =
      let other : is_at (nat_cmp m) k ≡ false = key_apart m k (λ f. apart (f ∙ sym e)) in
      ap (λ b. cond b (Some v) (lookup (is_at (nat_cmp m)) es)) other ∙ h ∙ sym (ap (λ b. cond b (Some w) (lookup (is_at (nat_cmp m)) fs)) other)

  set_by : (b : Bool) (e : ℕ × X) (es rest : List (ℕ × X)) (w : X) → (b ≡ true → n ≡ e.0) → lookup (is_at (nat_cmp m)) rest ≡ lookup (is_at (nat_cmp m)) es
      → lookup (is_at (nat_cmp m)) (cond b ((e.0, w) ∷ es) (e ∷ rest)) ≡ lookup (is_at (nat_cmp m)) (e ∷ es)
  set_by true e es rest w at h = passed e.0 w e.1 es es (at refl) refl
  set_by false e es rest w at h = ap (λ o. cond (is_at (nat_cmp m) e.0) (Some e.1) o) h

  pub lookup-set_apart : (es : List (ℕ × X)) (w : X) → lookup (is_at (nat_cmp m)) (set_value (is_at (nat_cmp n)) es w) ≡ lookup (is_at (nat_cmp m)) es
  lookup-set_apart [] w = refl
  lookup-set_apart (e ∷ es) w = set_by (is_at (nat_cmp n) e.0) e es (set_value (is_at (nat_cmp n)) es w) w (key_same n e.0) (lookup-set_apart es w)

  insert_by : (o : Ordering) (e : ℕ × X) (es rest : List (ℕ × X)) (w : X) → o ≡ nat_cmp n e.0 → lookup (is_at (nat_cmp m)) rest ≡ lookup (is_at (nat_cmp m)) es
      → lookup (is_at (nat_cmp m)) (match_ordering o ((n, w) ∷ e ∷ es) ((e.0, w) ∷ es) (e ∷ rest)) ≡ lookup (is_at (nat_cmp m)) (e ∷ es)
  insert_by Less e es rest w at h = ap (λ b. cond b (Some w) (lookup (is_at (nat_cmp m)) (e ∷ es))) (key_apart m n apart)
  insert_by Equal e es rest w at h = passed e.0 w e.1 es es (ranked n e.0 Equal at) refl
  insert_by Greater e es rest w at h = ap (λ o. cond (is_at (nat_cmp m) e.0) (Some e.1) o) h

  pub lookup-insert_apart : (es : List (ℕ × X)) (w : X) → lookup (is_at (nat_cmp m)) (insert_entry nat_cmp es n w) ≡ lookup (is_at (nat_cmp m)) es
  lookup-insert_apart [] w = ap (λ b. cond b (Some w) None) (key_apart m n apart)
  lookup-insert_apart (e ∷ es) w = insert_by (nat_cmp n e.0) e es (insert_entry nat_cmp es n w) w refl (lookup-insert_apart es w)

-- what a function of a look-up doesn't see of a new value
module _ {X Y : Type 0} (G : Option X → Y) (k n : ℕ) (x y : X) (same : G (Some y) ≡ G (Some x)) where
  seen_by : (b : Bool) (e : X) (o : Option X) → e ≡ x → G (cond b (Some y) o) ≡ G (cond b (Some e) o)
  seen_by true e o h = same ∙ ap (λ (z : X). G (Some z)) (sym h)
  seen_by false e o h = refl

  rest_by : (b : Bool) (e : X) (o r : Option X) → G o ≡ G r → G (cond b (Some e) o) ≡ G (cond b (Some e) r)
  rest_by true e o r h = refl
  rest_by false e o r h = h

  kept_by : (b : Bool) (e : ℕ × X) (es rest : List (ℕ × X)) → cond b (Some e.1) (lookup (is_at (nat_cmp n)) es) ≡ Some x
      → (lookup (is_at (nat_cmp n)) es ≡ Some x → G (lookup (is_at (nat_cmp k)) rest) ≡ G (lookup (is_at (nat_cmp k)) es))
      → G (lookup (is_at (nat_cmp k)) (cond b ((e.0, y) ∷ es) (e ∷ rest))) ≡ G (lookup (is_at (nat_cmp k)) (e ∷ es))
  kept_by true e es rest at more = let f : e.1 ≡ x = cc at in seen_by (is_at (nat_cmp k) e.0) e.1 (lookup (is_at (nat_cmp k)) es) f
  kept_by false e es rest at more = rest_by (is_at (nat_cmp k) e.0) e.1 (lookup (is_at (nat_cmp k)) rest) (lookup (is_at (nat_cmp k)) es) (more at)

  kept : (es : List (ℕ × X)) → lookup (is_at (nat_cmp n)) es ≡ Some x → G (lookup (is_at (nat_cmp k)) (set_value (is_at (nat_cmp n)) es y)) ≡ G (lookup (is_at (nat_cmp k)) es)
  kept [] h = refl
  kept (e ∷ es) h = kept_by (is_at (nat_cmp n) e.0) e es (set_value (is_at (nat_cmp n)) es y) h (kept es)

-- bytes that are put elsewhere
put_before : (at size off : ℕ) (new old : List ℕ) → off ≤ length old → at + size ≤ off → take size (drop at (put_at off new old)) ≡ take size (drop at old)
put_before at size off new old within h =
    let pre : length (take off old) ≡ off = length-take-le off old within in
    let below : at ≤ length (take off old) = omega arith in
    let room : size ≤ length (drop at (take off old)) = omega (arith, length-drop at (take off old)) in
    let one : (rest : List ℕ) → take size (drop at (take off old ++ rest)) ≡ take size (drop at (take off old)) =
    λ rest. ap (take size) (drop-append-le at (take off old) rest below) ∙ take-append-le size (drop at (take off old)) rest room in
    one (new ++ drop (off + length new) old) ∙ sym (one (drop off old)) ∙ ap (λ l. take size (drop at l)) (take-append-drop off old)

put_after : (at size off : ℕ) (new old : List ℕ) → off + length new ≤ length old → off + length new ≤ at → take size (drop at (put_at off new old)) ≡ take size (drop at old)
put_after at size off new old within h =
    let pre : length (take off old) ≡ off = length-take-le off old (omega arith) in
    let count : length (take off old ++ new) ≡ off + length new = omega (arith, length-append (take off old) new) in
    ap (take size) (ap (drop at) (sym (append_assoc (take off old) new (drop (off + length new) old))) ∙ drop-append-drop (off + length new) old (take off old ++ new) at h count)

module _ (objects : Objects) (k n : ℕ) (f : StoredObject → StoredObject) where
  changed_apart : (k ≡ n → ⊥) → (o : Option StoredObject) → lookup (is_at (nat_cmp k)) (changed_to objects n f o) ≡ lookup (is_at (nat_cmp k)) objects
  changed_apart apart None = refl
  changed_apart apart (Some x) = lookup-set_apart k n apart objects (f x)

  changed_seen : {Y : Type 0} (G : Option StoredObject → Y) (o : Option StoredObject) → lookup (is_at (nat_cmp n)) objects ≡ o → (IfSome o (λ x. G (Some (f x)) ≡ G (Some x)))
      → G (lookup (is_at (nat_cmp k)) (changed_to objects n f o)) ≡ G (lookup (is_at (nat_cmp k)) objects)
  changed_seen G None e h = refl
  changed_seen G (Some x) e h = kept G k n x (f x) h objects e

always : {P : StoredObject → Type 0} (o : Option StoredObject) → ((x : StoredObject) → P x) → IfSome o P
always None h = tt
always (Some x) h = h x

-- bytes put into this object, away from a cell
away : (at size off : ℕ) (bytes : List ℕ) → (at < off + length bytes → off < at + size → ⊥) → (o : Option StoredObject) → Holds off bytes o
    → IfSome o (λ (x : StoredObject). bytes_in at size (Some (with_bytes_at off bytes x)) ≡ bytes_in at size (Some x))
away at size off bytes none None within = tt
away at size off bytes none (Some x) within = by (nat_lt at (off + length bytes)) refl
  where
    by : (b : Bool) → nat_lt at (off + length bytes) ≡ b → take size (drop at (put_at off bytes x.bytes)) ≡ take size (drop at x.bytes)
    by false e = put_after at size off bytes x.bytes within (omega (arith, ltb-false at (off + length bytes) e))
    by true e = put_before at size off bytes x.bytes (omega arith) (not_below (none (ltb-true at (off + length bytes) e)))
      where
        not_below : (off < at + size → ⊥) → at + size ≤ off
        not_below h = omega arith

same_in : (m : Memory) (l : Location) → SameAt m m l
same_in m (object k) = refl
same_in m (cell k at size) = refl
same_in m (thread k) = refl

puts_cell : (m : Memory) (p : ℕ) (bytes : List ℕ) (k at size : ℕ) → Holds (offset_of p) bytes (object_at m.objects (object_of p))
    → ((k ≡ object_of p) × (at < offset_of p + length bytes) × (offset_of p < at + size) → ⊥) → (b : Bool) → is_at (nat_cmp k) (object_of p) ≡ b
    → cell_bytes (with_bytes m.objects p bytes) k at size ≡ cell_bytes m.objects k at size
puts_cell m p bytes k at size within none true e =
    changed_seen m.objects k (object_of p) (with_bytes_at (offset_of p) bytes) (bytes_in at size) (object_at m.objects (object_of p)) refl
    (away at size (offset_of p) bytes (λ a b. none (key_same k (object_of p) e, a, b)) (object_at m.objects (object_of p)) within)
puts_cell m p bytes k at size within none false e =
    ap (bytes_in at size) (changed_apart m.objects k (object_of p) (with_bytes_at (offset_of p) bytes) (λ f. differs k (object_of p) f e) (object_at m.objects (object_of p)))
  where
    differs : (a b : ℕ) → a ≡ b → is_at (nat_cmp a) b ≡ false → ⊥
    differs a b f e = true≢false (sym (key_refl a) ∙ ap (λ (x : ℕ). is_at (nat_cmp a) x) f ∙ e)

pub writes_alone : WritesAlone
writes_alone = λ m c l within none. by m c l within none
  where
    by : (m : Memory) (c : Change) (l : Location) → IsWithin m c → (Writes c l → ⊥) → SameAt (changed m c) m l
    by m keeps l within none = same_in m l
    by m (adds n o) (object k) within none = ap state_of (lookup-insert_apart k n none m.objects o)
    by m (adds n o) (cell k at size) within none = ap (bytes_in at size) (lookup-insert_apart k n none m.objects o)
    by m (adds n o) (thread k) within none = refl
    by m (kills n) (object k) within none = ap state_of (changed_apart m.objects k n as_dead none (object_at m.objects n))
    by m (kills n) (cell k at size) within none = changed_seen m.objects k n as_dead (bytes_in at size) (object_at m.objects n) refl (always (object_at m.objects n) (λ x. refl))
    by m (kills n) (thread k) within none = refl
    by m (puts p bytes) (object k) within none =
        changed_seen m.objects k (object_of p) (with_bytes_at (offset_of p) bytes) state_of (object_at m.objects (object_of p)) refl (always (object_at m.objects (object_of p)) (λ x. refl))
    by m (puts p bytes) (cell k at size) within none = puts_cell m p bytes k at size within none (is_at (nat_cmp k) (object_of p)) refl
    by m (puts p bytes) (thread k) within none = refl
    by m (starts n f v) (object k) within none = refl
    by m (starts n f v) (cell k at size) within none = refl
    by m (starts n f v) (thread k) within none = lookup-insert_apart k n none m.threads Running
    by m (ends n v) (object k) within none = refl
    by m (ends n v) (cell k at size) within none = refl
    by m (ends n v) (thread k) within none = lookup-set_apart k n none m.threads (Ended v)
