-- What the names of the table find among the rules.
use Rattle.std.proofs.Common.{◌≡◌, ◌||◌, ℕ, Bool, cond, true, false, refl, sym, ap, ap₂, ◌∙◌, inl, inr, subst, true≢false, List, [], ◌∷◌, ◌++◌, map, Option, Some, None, option_map, is_some, bytes_eq}
use Rattle.std.specs.Prelude.{⊤, unwrap_or}
use Rattle.std.proofs.lemmas.Slice.Eq.{bytes_eq-Decides}
use Rattle.clap.specs.Lexer.{long_of, name_and_value}
use Rattle.clap.proofs.LexerLemmas.{name_and_value-at, name_and_value-without}
use Rattle.clap.specs.Walk.{Rule, arg_by_id, arg_by_index, arg_by_long, arg_by_short}
use Rattle.options.specs.Table.{Kind, valued, flag, table, kind_in, kind_of_option}
use Rattle.options.specs.Words.{dashes, file_name}
use Rattle.options.proofs.Built.{taken, taken_file, rules}
use Rattle.options.proofs.Items.{Found, found}

abbrev Entry : Type 0
Entry = List ℕ × Kind

long_in : (t : List Entry) (name : List ℕ) → arg_by_long (map taken t ++ taken_file ∷ []) name ≡ option_map (λ (k : Kind). taken (name, k)) (kind_in t name)
long_in [] name = refl
long_in ((own, valued) ∷ rest) name = go (bytes_eq own name) (λ e. (bytes_eq-Decides own name).0 e) (long_in rest name)
  where
    go : (b : Bool) → (b ≡ true → own ≡ name) → arg_by_long (map taken rest ++ taken_file ∷ []) name ≡ option_map (λ (k : Kind). taken (name, k)) (kind_in rest name)
        → cond (b || false) (Some (taken (own, valued))) (arg_by_long (map taken rest ++ taken_file ∷ []) name) ≡ option_map (λ (k : Kind). taken (name, k)) (cond b (Some valued) (kind_in rest name))
    go true e ih = ap (λ (n : List ℕ). Some (taken (n, valued))) (e refl)
    go false e ih = ih
long_in ((own, flag) ∷ rest) name = go (bytes_eq own name) (λ e. (bytes_eq-Decides own name).0 e) (long_in rest name)
  where
    go : (b : Bool) → (b ≡ true → own ≡ name) → arg_by_long (map taken rest ++ taken_file ∷ []) name ≡ option_map (λ (k : Kind). taken (name, k)) (kind_in rest name)
        → cond (b || false) (Some (taken (own, flag))) (arg_by_long (map taken rest ++ taken_file ∷ []) name) ≡ option_map (λ (k : Kind). taken (name, k)) (cond b (Some flag) (kind_in rest name))
    go true e ih = ap (λ (n : List ℕ). Some (taken (n, flag))) (e refl)
    go false e ih = ih

pub some_is : {X : Type 0} (x y : X) → Some x ≡ Some y → x ≡ y
some_is x y e = ap (λ o. unwrap_or o x) e

id_in : (t : List Entry) (name : List ℕ) (k : Kind) → kind_in t name ≡ Some k → arg_by_id (map taken t ++ taken_file ∷ []) name ≡ Some (taken (name, k))
id_in [] name k h = absurd (true≢false (sym (ap (λ (o : Option Kind). is_some o) h)))
id_in ((own, valued) ∷ rest) name k h = go (bytes_eq own name) (λ e. (bytes_eq-Decides own name).0 e) h (id_in rest name k)
  where
    go : (b : Bool) → (b ≡ true → own ≡ name) → cond b (Some valued) (kind_in rest name) ≡ Some k → (kind_in rest name ≡ Some k → arg_by_id (map taken rest ++ taken_file ∷ []) name ≡ Some (taken (name, k)))
        → cond b (Some (taken (own, valued))) (arg_by_id (map taken rest ++ taken_file ∷ []) name) ≡ Some (taken (name, k))
    go true e h ih = ap₂ (λ (n : List ℕ) (x : Kind). Some (taken (n, x))) (e refl) (some_is valued k h)
    go false e h ih = ih h
id_in ((own, flag) ∷ rest) name k h = go (bytes_eq own name) (λ e. (bytes_eq-Decides own name).0 e) h (id_in rest name k)
  where
    go : (b : Bool) → (b ≡ true → own ≡ name) → cond b (Some flag) (kind_in rest name) ≡ Some k → (kind_in rest name ≡ Some k → arg_by_id (map taken rest ++ taken_file ∷ []) name ≡ Some (taken (name, k)))
        → cond b (Some (taken (own, flag))) (arg_by_id (map taken rest ++ taken_file ∷ []) name) ≡ Some (taken (name, k))
    go true e h ih = ap₂ (λ (n : List ℕ) (x : Kind). Some (taken (n, x))) (e refl) (some_is flag k h)
    go false e h ih = ih h

pub record Knows (c : List Rule) : Type 0 where
  pub long : (name : List ℕ) → arg_by_long c name ≡ option_map (λ (k : Kind). taken (name, k)) (kind_of_option name)
  pub id : (name : List ℕ) (k : Kind) → kind_of_option name ≡ Some k → arg_by_id c name ≡ Some (taken (name, k))
  pub file : arg_by_id c file_name ≡ Some taken_file
  pub first : arg_by_index c 1 ≡ Some taken_file
  pub second : arg_by_index c 2 ≡ None
  pub short : (x : ℕ) → arg_by_short c x ≡ None

pub known : Knows rules
known = record {
  long = long_in table;
  id = id_in table;
  file = refl;
  first = refl;
  second = refl;
  short = λ x. refl;
}

-- ---- the names

-- a name as clap cuts it from a word, and that it isn't FILE
pub record IsFine (name : List ℕ) : Type 0 where
  pub apart : long_of (dashes name) ≡ Some (name, None)
  pub joined : (v : List ℕ) → long_of (dashes (name ++ 61 ∷ v)) ≡ Some (name, Some v)
  pub apart_goes_on : bytes_eq (dashes name) (dashes []) ≡ false
  pub joined_goes_on : (v : List ℕ) → bytes_eq (dashes (name ++ 61 ∷ v)) (dashes []) ≡ false
  pub other : bytes_eq name file_name ≡ false

abbrev AreFine : List Entry → Type 0
AreFine [] = ⊤
AreFine (e ∷ t) = IsFine e.0 × AreFine t

fine_in : (t : List Entry) (name : List ℕ) (k : Kind) → AreFine t → kind_in t name ≡ Some k → IsFine name
fine_in [] name k all h = absurd (true≢false (sym (ap (λ (o : Option Kind). is_some o) h)))
fine_in ((own, kind) ∷ rest) name k all h = go (bytes_eq own name) (λ e. (bytes_eq-Decides own name).0 e) h (fine_in rest name k all.1)
  where
    go : (b : Bool) → (b ≡ true → own ≡ name) → cond b (Some kind) (kind_in rest name) ≡ Some k → (kind_in rest name ≡ Some k → IsFine name) → IsFine name
    go true e h ih = subst IsFine (e refl) all.0
    go false e h ih = ih h

pub fine : (name : List ℕ) (k : Kind) → kind_of_option name ≡ Some k → IsFine name
fine name k h =
    fine_in table name k (
      record { apart = refl; joined = λ v. refl; apart_goes_on = refl; joined_goes_on = λ v. refl; other = refl },
      (
        record { apart = refl; joined = λ v. refl; apart_goes_on = refl; joined_goes_on = λ v. refl; other = refl },
        (
          record { apart = refl; joined = λ v. refl; apart_goes_on = refl; joined_goes_on = λ v. refl; other = refl },
          (
            record { apart = refl; joined = λ v. refl; apart_goes_on = refl; joined_goes_on = λ v. refl; other = refl },
            (
              record { apart = refl; joined = λ v. refl; apart_goes_on = refl; joined_goes_on = λ v. refl; other = refl },
              (
                record { apart = refl; joined = λ v. refl; apart_goes_on = refl; joined_goes_on = λ v. refl; other = refl },
                (
                  record { apart = refl; joined = λ v. refl; apart_goes_on = refl; joined_goes_on = λ v. refl; other = refl },
                  (
                    record { apart = refl; joined = λ v. refl; apart_goes_on = refl; joined_goes_on = λ v. refl; other = refl },
                    tt,
                  ),
                ),
              ),
            ),
          ),
        ),
      ),
    ) h

-- the text is its name, or its name, `=` and its value
abbrev pub Joins : List ℕ → List ℕ → Option (List ℕ) → Type 0
Joins text name None = text ≡ name
Joins text name (Some v) = text ≡ name ++ 61 ∷ v

pub joins : (text : List ℕ) → Joins text (name_and_value text).0 (name_and_value text).1
joins text = go (found 61 text)
  where
    go : Found 61 text → Joins text (name_and_value text).0 (name_and_value text).1
    go (inl lacks) = subst (λ (p : List ℕ × Option (List ℕ)). Joins text p.0 p.1) (sym (name_and_value-without text lacks)) refl
    go (inr x) = subst (λ (p : List ℕ × Option (List ℕ)). Joins text p.0 p.1) (sym (ap name_and_value x.2.joined ∙ name_and_value-at x.0 x.1 x.2.first)) x.2.joined
