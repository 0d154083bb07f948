-- The laws of the table: what comes of a row depends only on what it reads.
use Rattle.std.proofs.Common.{◌≡◌, ◌<◌, ◌≤◌, ◌+◌, ℕ, List, [], take, drop, Option, Some, None, refl, sym, ap, subst, ◌∙◌, inl, inr}
use Rattle.actions.specs.StoredObject.{StoredObject}
use Rattle.actions.specs.States.{ObjectState}
use Rattle.actions.specs.declared.thread_state.ThreadState.{ThreadState}
use Rattle.actions.specs.Objects.{object_at, state_at, bytes_in, bytes_at}
use Rattle.actions.specs.Pointer.{object_of, offset_of}
use Rattle.actions.specs.Memory.{Memory, thread_at, Location, SameAt}
use Rattle.actions.specs.Memory.{object as location_object, cell as location_cell, thread as location_thread}
use Rattle.actions.specs.Row.{Row, comes, sees_object, sees_bytes, sees_thread, Reads}
use Rattle.actions.proofs.RowReads.{looks_alone}
use Rattle.weave.specs.Place.{Place, object, byte, thread, is_object, is_byte, is_thread, value_at, byte_in, IsPartOf}
use Rattle.weave.specs.Laws.{SameWhereRead, ReadsAlone, ReadsByReads}
use Rattle.weave.proofs.Bytes.{same_part, drop_none, take_none}

same_state : (s t : ObjectState) → is_object s ≡ is_object t → s ≡ t
same_state s t e = cc e

same_byte : (s t : Option ℕ) → is_byte s ≡ is_byte t → s ≡ t
same_byte s t e = cc e

same_thread : (s t : Option ThreadState) → is_thread s ≡ is_thread t → s ≡ t
same_thread s t e = cc e

no_bytes : (at n : ℕ) → [] ≡ take n (drop {A = ℕ} at [])
no_bytes at n = sym (ap (take n) (drop_none at) ∙ take_none n)

same_bytes : (at n : ℕ) (o q : Option StoredObject) → ((i : ℕ) → at ≤ i → i < at + n → byte_in i o ≡ byte_in i q) → bytes_in at n o ≡ bytes_in at n q
same_bytes at n None None h = refl
same_bytes at n None (Some q) h = no_bytes at n ∙ same_part at n [] q.bytes h
same_bytes at n (Some o) None h = same_part at n o.bytes [] h ∙ sym (no_bytes at n)
same_bytes at n (Some o) (Some q) h = same_part at n o.bytes q.bytes h

same_at : (m n : Memory) (l : Location) → ((p : Place) → IsPartOf l p → value_at m p ≡ value_at n p) → SameAt m n l
same_at m n (location_object k) h = same_state (state_at m.objects k) (state_at n.objects k) (h (object k) refl)
same_at m n (location_cell k at size) h =
    same_bytes at size (object_at m.objects k) (object_at n.objects k) (λ i a b. same_byte (byte_in i (object_at m.objects k)) (byte_in i (object_at n.objects k)) (h (byte k i) (refl, a, b)))
same_at m n (location_thread k) h = same_thread (thread_at m.threads k) (thread_at n.threads k) (h (thread k) refl)

same_read : (row : Row) (m n : Memory) → SameWhereRead row m n → (l : Location) → Reads m row l → SameAt m n l
same_read row m n same l r = same_at m n l (λ p q. same p (l, r, q))

pub reads_alone : ReadsAlone
reads_alone = λ row m n same. looks_alone row m n (same_read row m n same)

pub reads_by_reads : ReadsByReads
reads_by_reads = λ row m n same l r. go row m n same l r
  where
    go : (row : Row) (m n : Memory) → SameWhereRead row m n → (l : Location) → Reads n row l → Reads m row l
    go (comes o) m n same l r = r
    go (sees_object k next) m n same l (inl e) = inl e
    go (sees_object k next) m n same l (inr r) =
        let here : state_at m.objects k ≡ state_at n.objects k = same_read (sees_object k next) m n same (location_object k) (inl refl) in
        inr (go (next (state_at m.objects k)) m n (λ p q. same p (q.0, inr q.1, q.2)) l (subst (λ (s : ObjectState). Reads n (next s) l) (sym here) r))
    go (sees_bytes p k next) m n same l (inl e) = inl e
    go (sees_bytes p k next) m n same l (inr r) =
        let here : bytes_at m.objects p k ≡ bytes_at n.objects p k = same_read (sees_bytes p k next) m n same (location_cell (object_of p) (offset_of p) k) (inl refl) in
        inr (go (next (bytes_at m.objects p k)) m n (λ p q. same p (q.0, inr q.1, q.2)) l (subst (λ (s : List ℕ). Reads n (next s) l) (sym here) r))
    go (sees_thread k next) m n same l (inl e) = inl e
    go (sees_thread k next) m n same l (inr r) =
        let here : thread_at m.threads k ≡ thread_at n.threads k = same_read (sees_thread k next) m n same (location_thread k) (inl refl) in
        inr (go (next (thread_at m.threads k)) m n (λ p q. same p (q.0, inr q.1, q.2)) l (subst (λ (s : Option ThreadState). Reads n (next s) l) (sym here) r))
