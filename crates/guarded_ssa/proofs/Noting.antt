-- Registers and blocks that are noted as read.
use Rattle.std.proofs.Common.{◌≡◌, ℕ, suc, ◌+◌, ◌<◌, List, [], ◌∷◌, ◌++◌, length, take, get_or, Option, Some, None, sym, subst, ◌∙◌, arith}
use Rattle.std.proofs.lemmas.List.{take_more, length-take-le}
use Rattle.goto_prog.specs.declared.code.Instruction.{Instruction}
use Rattle.guarded_ssa.specs.inner.Reads.{IsRead, IsBlockRead, AreRead, Covers, Later, first_read, second_read, third_read, block_read}

read_later : (us ws : List ℕ) (p : ℕ) (r : Option ℕ) → Later us ws → IsRead us p r → IsRead ws p r
read_later us ws p None l h = tt
read_later us ws p (Some r) l h = λ lt. omega (arith, l.size, l.each r, h (omega (arith, lt, l.size)))

block_later : (registers : ℕ) (us ws : List ℕ) (p : ℕ) (b : Option ℕ) → Later us ws → IsBlockRead registers us p b → IsBlockRead registers ws p b
block_later registers us ws p None l h = tt
block_later registers us ws p (Some b) l h = read_later us ws p (Some (registers + b)) l h

later_more : (us ws xs : List ℕ) → Later us ws → Later ws xs → Later us xs
later_more us ws xs h k = record { size = k.size ∙ h.size; each = λ r. omega (arith, h.each r, k.each r) }

module _ (registers : ℕ) where
  covers_later : (us ws : List ℕ) (p : ℕ) (code : List Instruction) → Later us ws → Covers registers us p code → Covers registers ws p code
  covers_later us ws p [] l h = tt
  covers_later us ws p (i ∷ code) l h =
      ((read_later us ws p (first_read i.operation) l h.0.0, read_later us ws p (second_read i.operation) l h.0.1, read_later us ws p (third_read i.operation) l h.0.2, block_later registers us ws p (block_read i.operation) l h.0.3), covers_later us ws (suc p) code l h.1)

  covers_push : (us : List ℕ) (p q : ℕ) (code : List Instruction) (i : Instruction) → q ≡ p + length code → Covers registers us p code → AreRead registers us q i.operation → Covers registers us p (code ++ i ∷ [])
  covers_push us p q [] i e h k = (let f : q ≡ p = omega (arith, e) in subst (λ n. AreRead registers us n i.operation) f k, tt)
  covers_push us p q (j ∷ code) i e h k = (h.0, covers_push us (suc p) q code i (omega (arith, e)) h.1 k)

  pub covers_more : (us ws xs ys zs : List ℕ) (k : ℕ) (code : List Instruction) (z : Instruction) (first second third block : Option ℕ) → k < length code → Later us ws → Later ws xs → Later xs ys → Later ys zs
      → first ≡ first_read (get_or code k z).operation → second ≡ second_read (get_or code k z).operation → third ≡ third_read (get_or code k z).operation → block ≡ block_read (get_or code k z).operation
      → IsRead ws k first → IsRead xs k second → IsRead ys k third → IsBlockRead registers zs k block → Covers registers us 0 (take k code) → Covers registers zs 0 (take (k + 1) code)
  covers_more us ws xs ys zs k code z first second third block lt l m n o is1 is2 is3 is4 one two three four h =
      let i = get_or code k z in
      let late = later_more xs ys zs n o in
      let read : AreRead registers zs k i.operation =
      (subst (IsRead zs k) is1 (read_later ws zs k first (later_more ws xs zs m late) one), subst (IsRead zs k) is2 (read_later xs zs k second late two), subst (IsRead zs k) is3 (read_later ys zs k third o three), subst (IsBlockRead registers zs k) is4 four) in
      subst (Covers registers zs 0) (sym (take_more code k z lt))
      (covers_push zs 0 k (take k code) i (omega (arith, lt, length-take-le k code (omega (arith, lt)))) (covers_later us zs 0 (take k code) (later_more us ws zs l (later_more ws xs zs m late)) h) read)
