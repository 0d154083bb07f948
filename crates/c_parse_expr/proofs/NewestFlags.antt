-- The flags of names in memory, and what a map has after a name is given another flag.
use Rattle.std.proofs.Common.{◌≡◌, Bool, true, false, List, [], ◌∷◌, ◌++◌, ℕ, Option, Some, None, nat_eq, map, reverse, length, refl, sym, ap, subst, ◌∙◌}
use Rattle.std.specs.Prelude.{if◌then◌else◌, Vec}
use Rattle.std.specs.Option.{option_and_then}
use Rattle.std.specs.Map.{lookup}
use Rattle.std.specs.Str.{bytes_eq}
use Rattle.std.specs.Cmp.Lexicographic.{pointwise}
use Rattle.std.specs.Global.{Global}
use Rattle.std.proofs.lemmas.List.{reverse-append, length-map, length-reverse}
use Rattle.std.proofs.lemmas.Slice.Eq.{bytes_eq-Decides}
use Rattle.std.proofs.lemmas.Bool.{false_from_ne_true, false≢true}
use Rattle.indexmap.specs.IndexMap.{insert_entry}
use Rattle.c_tree.specs.Names.{Scope, is_type}
use Rattle.c_parse_expr.specs.declared.names.Entry.{Entry}
use Rattle.c_parse_expr.specs.Flags.{scope_of, scope_in, flag_in, hidden_of, flag_at}

abbrev joined : Option (Option Bool) → Option Bool
joined o = option_and_then (λ p. p) o

abbrev pub Entries : Type 0
Entries = List (Vec ℕ Global × Option Bool)

alone : (x : Bool) (v : Option Bool) → joined (if x then Some v else None) ≡ (if x then v else None)
alone true v = refl
alone false v = refl

written : (x : Bool) (v w : Option Bool) (rest : Option (Option Bool)) → joined (if x then Some v else rest) ≡ (if x then v else joined (if x then Some w else rest))
written true v w rest = refl
written false v w rest = refl

passed : (x y : Bool) (v w : Option Bool) (new old : Option (Option Bool)) → (x ≡ true → y ≡ false) → joined new ≡ (if y then v else joined old) → joined (if x then Some w else new) ≡ (if y then v else joined (if x then Some w else old))
passed true y v w new old apart same = ap (λ (b : Bool). if b then v else w) (sym (apart refl))
passed false y v w new old apart same = same

pub same_name : (a b : List ℕ) → bytes_eq a b ≡ true → a ≡ b
same_name a b e = (bytes_eq-Decides a b).0 e

pub others_name : (n a b : List ℕ) → bytes_eq n b ≡ true → bytes_eq a b ≡ false → bytes_eq n a ≡ false
others_name n a b here apart =
    false_from_ne_true (bytes_eq n a) (λ same. false≢true (sym apart ∙ (bytes_eq-Decides a b).1 (sym (same_name n a same) ∙ same_name n b here)))

pub flag_after : (es : Entries) (k : Vec ℕ Global) (v : Option Bool) (n : List ℕ) →
    flag_at (insert_entry (λ (x y : Vec ℕ Global). pointwise nat_eq x.items y.items) es k v) n ≡ (if bytes_eq n k.items then v else flag_at es n)
flag_after [] k v n = alone (bytes_eq n k.items) v
flag_after (e ∷ es) k v n = either (flag_after es k v n) (bytes_eq k.items e.0.items) refl where
  rest : Entries
  rest = insert_entry (λ (x y : Vec ℕ Global). pointwise nat_eq x.items y.items) es k v

  after : Entries → Type 0
  after xs = flag_at xs n ≡ (if bytes_eq n k.items then v else flag_at (e ∷ es) n)

  either : (flag_at rest n ≡ (if bytes_eq n k.items then v else flag_at es n)) → (b : Bool) → bytes_eq k.items e.0.items ≡ b → after (if b then (e.0, v) ∷ es else e ∷ rest)
  either before true same =
      subst (λ (ks : List ℕ). flag_at ((e.0, v) ∷ es) n ≡ (if bytes_eq n ks then v else flag_at (e ∷ es) n))
      (sym (same_name k.items e.0.items same)) (written (bytes_eq n e.0.items) v e.1 (lookup (λ (x : Vec ℕ Global). pointwise nat_eq n x.items) es))
  either before false apart =
      passed (bytes_eq n e.0.items) (bytes_eq n k.items) v e.1 (lookup (λ (x : Vec ℕ Global). pointwise nat_eq n x.items) rest) (lookup (λ (x : Vec ℕ Global). pointwise nat_eq n x.items) es)
      (λ here. others_name n k.items e.0.items here apart) before

-- the latest declaration is the newest
pub scope_push : (es : List Entry) (e : Entry) → scope_in (es ++ e ∷ []) ≡ (e.name.items, e.is_type) ∷ scope_in es
scope_push es e = ap scope_of (reverse-append es (e ∷ []))

pub hidden_push : (es : List Entry) (e : Entry) → hidden_of (es ++ e ∷ []) ≡ e.hidden ∷ hidden_of es
hidden_push es e = ap (λ (xs : List Entry). map (λ x. x.hidden) xs) (reverse-append es (e ∷ []))

pub length-scope : (es : List Entry) → length (scope_in es) ≡ length es
length-scope es = length-map (reverse es) (λ (e : Entry). (e.name.items, e.is_type)) ∙ length-reverse es

-- a name without a flag is not that of a type
abbrev pub flag_or : Option Bool → Bool
flag_or None = false
flag_or (Some b) = b

by_name : (x b : Bool) (rest : Option Bool) (others : Bool) → flag_or rest ≡ others → flag_or (if x then Some b else rest) ≡ (if x then b else others)
by_name true b rest others e = refl
by_name false b rest others e = e

pub type_by_flag : (names : Scope) (n : List ℕ) → flag_or (flag_in names n) ≡ is_type names n
type_by_flag [] n = refl
type_by_flag (e ∷ names) n = by_name (bytes_eq n e.0) e.1 (flag_in names n) (is_type names n) (type_by_flag names n)

-- the flags without the newest declaration, which gives back the flag that it hides
replaced : (x b : Bool) (old new hidden now : Option Bool) → now ≡ (if x then hidden else old) → old ≡ (if x then Some b else new) → (x ≡ true → hidden ≡ new) → now ≡ new
replaced true b old new hidden now e f h = e ∙ h refl
replaced false b old new hidden now e f h = e ∙ f

pub forgotten : (names : Scope) (e : List ℕ × Bool) (hidden : Option Bool) (name : List ℕ) (old now : Option Bool) →
    hidden ≡ flag_in names e.0 → old ≡ flag_in (e ∷ names) name → now ≡ (if bytes_eq name e.0 then hidden else old) → now ≡ flag_in names name
forgotten names e hidden name old now h f g =
    replaced (bytes_eq name e.0) e.1 old (flag_in names name) hidden now g f (λ same. h ∙ ap (λ (n : List ℕ). flag_in names n) (sym ((bytes_eq-Decides name e.0).0 same)))

-- the name of the newest declaration has a flag
pub has_flag : (names : Scope) (e : List ℕ × Bool) → flag_in (e ∷ names) e.0 ≡ None → ⊥
has_flag names e f =
    let first : flag_in (e ∷ names) e.0 ≡ Some e.1 = ap (λ (x : Bool). if x then Some e.1 else flag_in names e.0) ((bytes_eq-Decides e.0 e.0).1 refl) in
    cc

pub declared : (names : Scope) (e : List ℕ × Bool) (name : List ℕ) (old now : Option Bool) →
    old ≡ flag_in names name → now ≡ (if bytes_eq name e.0 then Some e.1 else old) → now ≡ flag_in (e ∷ names) name
declared names e name old now f g = g ∙ ap (λ (o : Option Bool). if bytes_eq name e.0 then Some e.1 else o) f
