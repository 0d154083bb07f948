-- The text of a string token.
use Rattle.std.proofs.Common.{◌≡◌, ◌≤◌, ℕ, List, [], ◌∷◌, length, Bool, true, false, Option, Some, None, Result, Ok, Err, ◌==◌, cond, refl, inl, inr, arith, ◌⊎◌}
use Rattle.std.specs.Prelude.{is_some}
use Rattle.std.specs.Option.{option_map_or}
use Rattle.std.proofs.lemmas.Bool.{and_parts}
use Rattle.c_token.specs.declared.token.Constant.{Constant}
use Rattle.c_token.specs.declared.token.Kind.{Kind}
use Rattle.c_token.specs.declared.token.Kind.TheVariants as kinds
use Rattle.c_lexer.specs.declared.fault.Fault.{Fault}
use Rattle.c_lexer.specs.declared.fault.Fault.TheVariants as faults
use Rattle.c_lexer.specs.Forms.{begins, is_word, is_number, is_literal}
use Rattle.c_lexer.specs.Bytes.{is_quote}
use Rattle.c_token.specs.Spelling.{keyword_of, mark_of}
use Rattle.c_lexer.specs.Constants.{constant_of}
use Rattle.c_lexer.specs.Literals.{string_bytes, character_byte}
use Rattle.c_lexer.specs.Kinds.{is_foreign, word_kind, number_kind, literal_kind, mark_kind, kind_of, int_bits}
use Rattle.c_token.specs.declared.token.Keyword.{Keyword}
use Rattle.c_token.specs.declared.token.Mark.{Mark}

word_is_none : (f : Bool) (k : Option Keyword) → cond f (Err faults.Foreign) (Ok (option_map_or kinds.Keyword k kinds.Identifier)) ≡ Ok kinds.String → ⊥
word_is_none true k h = cc
word_is_none false None h = cc
word_is_none false (Some k) h = cc

number_is_none : (o : Option Constant) → option_map_or (λ c. Ok (kinds.Constant c)) o (Err faults.BadConstant) ≡ Ok kinds.String → ⊥
number_is_none None h = cc
number_is_none (Some c) h = cc

mark_is_none : (o : Option Mark) → option_map_or (λ m. Ok (kinds.Mark m)) o (Err faults.BadByte) ≡ Ok kinds.String → ⊥
mark_is_none None h = cc
mark_is_none (Some m) h = cc

literal_is_string : (q s : Bool) (c : Option ℕ) →
    cond q (cond s (Ok kinds.String) (Err faults.BadConstant)) (option_map_or (λ byte. Ok (kinds.Character (int_bits byte))) c (Err faults.BadConstant)) ≡ Ok kinds.String → s ≡ true
literal_is_string true true c h = refl
literal_is_string true false c h = cc
literal_is_string false s None h = cc
literal_is_string false s (Some b) h = cc

chosen : (w n l : Bool) (a b c d x : Result Kind Fault) → cond w a (cond n b (cond l c d)) ≡ x → (a ≡ x) ⊎ ((b ≡ x) ⊎ (((l ≡ true) × (c ≡ x)) ⊎ (d ≡ x)))
chosen true n l a b c d x h = inl h
chosen false true l a b c d x h = inr (inl h)
chosen false false true a b c d x h = inr (inr (inl (refl, h)))
chosen false false false a b c d x h = inr (inr (inr h))

literal_two : (text : List ℕ) → is_literal text ≡ true → 2 ≤ length text
literal_two [] h = cc
literal_two (q ∷ []) h = let p = and_parts (is_quote q) false h in absurd (let e : false ≡ true = p.1 in cc)
literal_two (q ∷ b ∷ bs) h = omega arith

pub string_text : (text : List ℕ) → kind_of text ≡ Ok kinds.String → (2 ≤ length text) × (is_some (string_bytes text) ≡ true)
unfolding kind_of word_kind number_kind literal_kind mark_kind
string_text text h =
    elim (chosen (is_word text) (is_number text) (is_literal text) (word_kind text) (number_kind text) (literal_kind text) (mark_kind text) (Ok kinds.String) h) [
      | inl w ↦ absurd (word_is_none (is_foreign text) (keyword_of text) w)
      | inr r ↦ elim r [
        | inl n ↦ absurd (number_is_none (constant_of text) n)
        | inr s ↦ elim s [
          | inl l ↦ (literal_two text l.0, literal_is_string (begins (λ b. b == 34) text) (is_some (string_bytes text)) (character_byte text) l.1)
          | inr m ↦ absurd (mark_is_none (mark_of text) m)
        ]
      ]
    ]
