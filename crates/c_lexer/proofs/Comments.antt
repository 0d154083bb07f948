-- Where comments end.
use Rattle.std.proofs.Common.{◌≡◌, ◌<◌, ◌≤◌, ◌+◌, ◌-◌, ℕ, List, [], ◌∷◌, length, take, drop, get_or, Bool, true, false, ◌==◌, ◌&&◌, nat_le, codes, cond, refl, ◌∙◌, inl, inr, arith, zero, suc, add-one}
use Rattle.std.proofs.lemmas.Bool.{cases_lt, and_parts, and_from, and_right, both_ways, le-leb, lt-leb, eqb-true, not_from_true, not_from_false}
use Rattle.std.proofs.lemmas.List.{length-take, length-take-le, take-take, drop-take, drop_more}
use Rattle.std.specs.Str.{bytes_eq}
use Rattle.c_lexer.specs.declared.piece.Start.{Start}
use Rattle.c_lexer.specs.declared.piece.Start.TheVariants as starts
use Rattle.c_lexer.specs.Bytes.{is_space}
use Rattle.c_lexer.specs.Forms.{begins, runs_on, in_line, is_line_comment, is_block_comment, IsLongest, IsShortest, NonePasses}
use Rattle.c_lexer.specs.Positions.{start_of}
use Rattle.c_lexer.proofs.Runs.{run_more, run_ends}
use Rattle.c_lexer.proofs.Ends.{begins_stays}

abbrev chosen : Bool → Bool → Bool → Bool → Start
chosen line block newline space =
    cond line starts.LineComment (cond block starts.BlockComment (cond newline starts.Newline (cond space starts.Space starts.Token)))

end_chosen : (t1 t2 t3 t4 : Bool) → chosen t1 t2 t3 t4 ≡ starts.End → ⊥
end_chosen true t2 t3 t4 h = cc
end_chosen false true t3 t4 h = cc
end_chosen false false true t4 h = cc
end_chosen false false false true h = cc
end_chosen false false false false h = cc

line_chosen : (t1 t2 t3 t4 : Bool) → chosen t1 t2 t3 t4 ≡ starts.LineComment → t1 ≡ true
line_chosen true t2 t3 t4 h = refl
line_chosen false true t3 t4 h = cc
line_chosen false false true t4 h = cc
line_chosen false false false true h = cc
line_chosen false false false false h = cc

block_chosen : (t1 t2 t3 t4 : Bool) → chosen t1 t2 t3 t4 ≡ starts.BlockComment → t2 ≡ true
block_chosen true t2 t3 t4 h = cc
block_chosen false true t3 t4 h = refl
block_chosen false false true t4 h = cc
block_chosen false false false true h = cc
block_chosen false false false false h = cc

token_chosen : (t1 t2 t3 t4 : Bool) → chosen t1 t2 t3 t4 ≡ starts.Token → t4 ≡ false
token_chosen true t2 t3 t4 h = cc
token_chosen false true t3 t4 h = cc
token_chosen false false true t4 h = cc
token_chosen false false false true h = cc
token_chosen false false false false h = refl

line_two : (b : ℕ) (bs : List ℕ) → (b == 47 && begins (λ c. c == 47) bs) ≡ true → (2 ≤ length (b ∷ bs)) × (is_line_comment (take 2 (b ∷ bs)) ≡ true)
line_two b [] h = absurd (both_ways false refl (and_parts _ _ h).1)
line_two b (c ∷ bs) h =
    let e : c ≡ 47 = eqb-true c 47 (and_parts (b == 47) (c == 47) h).1 in
    let newline : (c == 10) ≡ false = rw e refl in
    (omega arith, and_from _ _ h (and_from _ _ (not_from_false _ newline) refl))

pub line_start : (text : List ℕ) → start_of text ≡ starts.LineComment → (2 ≤ length text) × (is_line_comment (take 2 text) ≡ true)
unfolding start_of
line_start [] h = cc
line_start (b ∷ bs) h = line_two b bs (line_chosen _ _ _ _ h)

pub line_more : (text : List ℕ) (n : ℕ) → 0 < n → n < length text → is_line_comment (take n text) ≡ true → (get_or text n 0 == 10) ≡ false → is_line_comment (take (n + 1) text) ≡ true
line_more [] n z l h e = absurd (omega arith)
line_more (b ∷ bs) zero z l h e = absurd (omega arith)
line_more (b ∷ bs) (suc n) z l h e =
    let p = and_parts (b == 47 && begins (λ c. c == 47) (take n bs)) (runs_on in_line b (take n bs)) h in
    let q = and_parts (b == 47) (begins (λ c. c == 47) (take n bs)) p.0 in
    let less : n ≤ suc n = omega arith in
    let k = begins_stays (λ c. c == 47) bs n (suc n) less q.1 in
    rw add-one (and_from _ _ (and_from _ _ q.0 k) (run_more in_line b bs n (omega arith) p.1 (not_from_false _ e)))

line_past : (b : ℕ) (bs : List ℕ) (n m : ℕ) → n < length bs → suc n < m → (get_or bs n 0 == 10) ≡ true → is_line_comment (take m (b ∷ bs)) ≡ false
line_past b bs n zero l k e = absurd (omega arith)
line_past b bs n (suc m) l k e =
    and_right _ (runs_on in_line b (take m bs)) (run_ends in_line b bs n m l (omega arith) (not_from_true _ e))

pub line_ends : (text : List ℕ) (n : ℕ) → 0 < n → n < length text → is_line_comment (take n text) ≡ true → (get_or text n 0 == 10) ≡ true → IsLongest is_line_comment text n
line_ends [] n z l h e = absurd (omega arith)
line_ends (b ∷ bs) zero z l h e = absurd (omega arith)
line_ends (b ∷ bs) (suc n) z l h e =
    record {
      within = omega arith;
      passes = h;
      longest = λ m k w. line_past b bs n m (omega arith) k e;
    }

abbrev pub Opens : List ℕ → Type 0
Opens text = bytes_eq (take 2 text) (codes "/*") ≡ true

pub block_start : (text : List ℕ) → start_of text ≡ starts.BlockComment → (2 ≤ length text) × Opens text
unfolding start_of
block_start [] h = cc
block_start (b ∷ []) h = absurd (both_ways false refl (and_parts (b == 47) false (block_chosen _ _ _ _ h)).1)
block_start (b ∷ c ∷ bs) h =
    let p = and_parts (b == 47) (c == 42) (block_chosen _ _ _ _ h) in
    (omega arith, and_from _ _ p.0 (and_from _ _ p.1 refl))

both_hold : (x y : Bool) → (x && (y && true)) ≡ (x && y)
both_hold true true = refl
both_hold true false = refl
both_hold false true = refl
both_hold false false = refl

pub block_at : (text : List ℕ) (k : ℕ) → Opens text → 2 ≤ k → k + 2 ≤ length text → is_block_comment (take (k + 2) text) ≡ (get_or text k 0 == 42 && get_or text (k + 1) 0 == 47)
block_at text k o two within =
    let len : length (take (k + 2) text) ≡ k + 2 = length-take-le (k + 2) text within in
    let four : nat_le 4 (k + 2) ≡ true = le-leb 4 (k + 2) (omega arith) in
    let front : take 2 (take (k + 2) text) ≡ take 2 text = take-take 2 (k + 2) text (omega arith) in
    let back : (k + 2) - 2 ≡ k = omega arith in
    let tail : drop k (take (k + 2) text) ≡ take 2 (drop k text) = drop-take k 2 text in
    let first : drop k text ≡ get_or text k 0 ∷ drop (k + 1) text = drop_more text k 0 (omega arith) in
    let second : drop (k + 1) text ≡ get_or text (k + 1) 0 ∷ drop (k + 1 + 1) text = drop_more text (k + 1) 0 (omega arith) in
    rw (len, four, front, o, back, tail, first, second) (both_hold (get_or text k 0 == 42) (get_or text (k + 1) 0 == 47))

pub block_short : (text : List ℕ) (m : ℕ) → m < 4 → is_block_comment (take m text) ≡ false
block_short text m l =
    let short : nat_le 4 (length (take m text)) ≡ false = lt-leb 4 (length (take m text)) (omega (arith, length-take m text)) in
    rw short refl

-- no comment ends before the position two behind k
abbrev pub Open : List ℕ → ℕ → Type 0
Open text k = (m : ℕ) → m < k + 2 → m ≤ length text → is_block_comment (take m text) ≡ false

pub open_start : (text : List ℕ) → Open text 2
open_start text m l w = block_short text m l

pub open_more : (text : List ℕ) (k : ℕ) → Opens text → 2 ≤ k → k + 1 < length text → (get_or text k 0 == 42 && get_or text (k + 1) 0 == 47) ≡ false → Open text k → Open text (k + 1)
open_more text k o two within e h m l w =
    elim (cases_lt m (k + 2)) [
      | inl less ↦ h m less w
      | inr more ↦
          let same : m ≡ k + 2 = omega arith in
          rw same (block_at text k o two (omega arith) ∙ e)
    ]

pub open_ends : (text : List ℕ) (k : ℕ) → Opens text → 2 ≤ k → k + 1 < length text → (get_or text k 0 == 42 && get_or text (k + 1) 0 == 47) ≡ true → Open text k → IsShortest is_block_comment text (k + 2)
open_ends text k o two within e h = record {
  within = omega arith;
  passes = block_at text k o two (omega arith) ∙ e;
  shortest = λ m l. h m l (omega arith);
}

pub open_never : (text : List ℕ) (k : ℕ) → length text ≤ k + 1 → Open text k → NonePasses is_block_comment text
open_never text k l h m w = h m (omega arith) w

-- the token's first byte is no space
pub token_start : (b : ℕ) (bs : List ℕ) → start_of (b ∷ bs) ≡ starts.Token → is_space b ≡ false
unfolding start_of
token_start b bs h = token_chosen _ _ _ _ h

pub not_end : (text : List ℕ) → 0 < length text → start_of text ≡ starts.End → ⊥
unfolding start_of
not_end [] l h = omega arith
not_end (b ∷ bs) l h = end_chosen _ _ _ _ h
