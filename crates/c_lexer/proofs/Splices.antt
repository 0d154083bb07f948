-- The file without splices, byte after byte.
use Rattle.std.proofs.Common.{◌≡◌, ◌≤◌, ◌+◌, ℕ, List, [], ◌∷◌, ◌++◌, length, map, Bool, true, false, ◌==◌, ◌&&◌, cond, sym, ◌∙◌, arith, suc}
use Rattle.std.proofs.lemmas.List.{length-map}
use Rattle.c_lexer.specs.Forms.{begins}
use Rattle.c_lexer.specs.Cutting.{characters, bytes_of, lines_of}

-- what the rest of the file gives, in front of it what came before
abbrev pub gives : {X : Type 0} → (ℕ × ℕ → X) → List X → Bool → ℕ → List ℕ → List X
gives part before skip line rest = before ++ map part (characters skip line rest)

pub as_many : (file : List ℕ) → length (lines_of file) ≡ length (bytes_of file)
unfolding bytes_of lines_of
as_many file = length-map (characters false 1 file) (λ c. c.1) ∙ sym (length-map (characters false 1 file) (λ c. c.0))

no_more_choice : (skip splice : Bool) (n : ℕ) (x : ℕ × ℕ) (skipped spliced plain : List (ℕ × ℕ)) →
    length skipped ≤ n → length spliced ≤ n → length plain ≤ n → length (cond skip skipped (cond splice spliced (x ∷ plain))) ≤ suc n
no_more_choice true splice n x a b c l m k = omega arith
no_more_choice false true n x a b c l m k = omega arith
no_more_choice false false n x a b c l m k = omega arith

characters_no_more : (skip : Bool) (line : ℕ) (file : List ℕ) → length (characters skip line file) ≤ length file
characters_no_more skip line [] = omega arith
characters_no_more skip line (b ∷ bs) =
    let next = cond (b == 10) (line + 1) line in
    no_more_choice skip (b == 92 && begins (λ c. c == 10) bs) (length bs) (b, line)
    (characters false next bs) (characters true next bs) (characters false next bs)
    (characters_no_more false next bs) (characters_no_more true next bs) (characters_no_more false next bs)

pub no_more : (file : List ℕ) → length (bytes_of file) ≤ length file
unfolding bytes_of
no_more file = rw (length-map (characters false 1 file) (λ c. c.0)) (characters_no_more false 1 file)
