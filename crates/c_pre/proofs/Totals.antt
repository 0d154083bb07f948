-- Each text is replaced in some way, where finitely many names are macros'.
use Rattle.std.proofs.Common.{◌≡◌, ◌≤◌, ◌<◌, ◌+◌, ℕ, zero, suc, List, [], ◌∷◌, ◌++◌, map, Bool, true, false, ◌||◌, Option, Some, None, nat_eq, refl, sym, ap, ◌∙◌, arith}
use Rattle.std.specs.Prelude.{Vec, option_map, cond}
use Rattle.std.specs.Option.{option_and_then}
use Rattle.std.specs.List.{list_any}
use Rattle.std.specs.Map.{lookup}
use Rattle.std.specs.Str.{bytes_eq}
use Rattle.std.specs.Cmp.Lexicographic.{pointwise}
use Rattle.std.specs.Global.{Global}
use Rattle.std.proofs.lemmas.Slice.Eq.{bytes_eq-Decides}
use Rattle.c_token.specs.declared.token.Token.{Token}
use Rattle.c_token.specs.Spelling.{text_of}
use Rattle.c_pre.specs.declared.lines.Line.{Line}
use Rattle.c_pre.specs.Macros.{Macros, body_for, placed, done, stays, replaced, IsReplacedBy}
use Rattle.c_pre.specs.Views.{Entries, tokens_of, macros_in}
use Rattle.c_pre.specs.declared.known.Node.{Node}
use Rattle.c_pre.specs.Known.{Opens, outer, names_at}
use Rattle.c_pre.specs.Waiting.{Waiting, Waits}

-- each name of a macro is one of these
abbrev pub AreNames : Macros → List (List ℕ) → Type 0
AreNames macros all = (name : List ℕ) (body : List Token) → macros name ≡ Some body → list_any (bytes_eq name) all ≡ true

abbrev pub one : Bool → ℕ
one true = 0
one false = 1

-- how many of all the names aren't being replaced
abbrev pub free : List (List ℕ) → List (List ℕ) → ℕ
free [] names = 0
free (n ∷ ns) names = one (list_any (bytes_eq n) names) + free ns names

one_or : (a b : Bool) → one (a || b) ≤ one b
one_or true true = omega arith
one_or true false = omega arith
one_or false true = omega arith
one_or false false = omega arith

free_falls : (all names : List (List ℕ)) (name : List ℕ) → free all (name ∷ names) ≤ free all names
free_falls [] names name = omega arith
free_falls (n ∷ ns) names name = omega (arith, one_or (bytes_eq n name) (list_any (bytes_eq n) names), free_falls ns names name)

same : (a b : List ℕ) → bytes_eq a b ≡ true → a ≡ b
same a b e = (bytes_eq-Decides a b).0 e

here : (n name : List ℕ) (names : List (List ℕ)) → name ≡ n → list_any (bytes_eq name) names ≡ false → (one (list_any (bytes_eq n) (name ∷ names)) ≡ 0) × (one (list_any (bytes_eq n) names) ≡ 1)
here n name names e out =
    let equal : bytes_eq n name ≡ true = (bytes_eq-Decides n name).1 (sym e) in
    (ap (λ (b : Bool). one (b || list_any (bytes_eq n) names)) equal, ap one (ap (λ (k : List ℕ). list_any (bytes_eq k) names) (sym e) ∙ out))

free_less : (all names : List (List ℕ)) (name : List ℕ) → list_any (bytes_eq name) all ≡ true → list_any (bytes_eq name) names ≡ false → free all (name ∷ names) < free all names
free_less [] names name found out = cc
free_less (n ∷ ns) names name found out = by (bytes_eq name n) refl found (λ f. free_less ns names name f out) where
  by : (b : Bool) → bytes_eq name n ≡ b → (b || list_any (bytes_eq name) ns) ≡ true → (list_any (bytes_eq name) ns ≡ true → free ns (name ∷ names) < free ns names) → free (n ∷ ns) (name ∷ names) < free (n ∷ ns) names
  by true e f less = let both = here n name names (same name n e) out in omega (arith, both.0, both.1, free_falls ns names name)
  by false e f less = omega (arith, one_or (bytes_eq n name) (list_any (bytes_eq n) names), less f)

-- a body is that of a macro outside
pub for_cases : (macros : Macros) (names : List (List ℕ)) (name : List ℕ) (body : List Token) → body_for macros names name ≡ Some body → (list_any (bytes_eq name) names ≡ false) × (macros name ≡ Some body)
for_cases macros names name body e = by (list_any (bytes_eq name) names) refl e where
  by : (b : Bool) → list_any (bytes_eq name) names ≡ b → cond b None (macros name) ≡ Some body → (list_any (bytes_eq name) names ≡ false) × (macros name ≡ Some body)
  by true h f = cc
  by false h f = (h, f)

abbrev Some_of : List ℕ → Macros → List (List ℕ) → Option ℕ → List Token → Type 0
Some_of bytes macros names line ts = (found : List Token) × IsReplacedBy bytes macros names line ts found

-- with the bodies of macros outside the names
list_some : (bytes : List ℕ) (macros : Macros) (names : List (List ℕ)) →
    ((name : List ℕ) (body : List Token) (line : Option ℕ) → body_for macros names name ≡ Some body → Some_of bytes macros (name ∷ names) line body) →
    (line : Option ℕ) (ts : List Token) → Some_of bytes macros names line ts
list_some bytes macros names inner line [] = ([], (done, refl))
list_some bytes macros names inner line (t ∷ ts) = by (body_for macros names (text_of bytes t)) refl (list_some bytes macros names inner line ts) where
  by : (o : Option (List Token)) → body_for macros names (text_of bytes t) ≡ o → Some_of bytes macros names line ts → Some_of bytes macros names line (t ∷ ts)
  by None e (more, (how, b)) = (placed line t ∷ more, (stays how, (e, (more, b, refl))))
  by (Some body) e (more, (how, b)) =
      let inside = inner (text_of bytes t) body (Some (placed line t).line) e in
      (inside.0 ++ more, (replaced inside.1.0 how, (body, e, (inside.0, more, inside.1.1, b, refl))))

pub some_replacement : (bytes : List ℕ) (macros : Macros) (all : List (List ℕ)) → AreNames macros all → (n : ℕ) (names : List (List ℕ)) → free all names < n →
    (line : Option ℕ) (ts : List Token) → Some_of bytes macros names line ts
some_replacement bytes macros all are zero names l line ts = absurd (omega (arith, l))
some_replacement bytes macros all are (suc n) names l line ts =
    list_some bytes macros names
    (λ name body inside e.
    let both = for_cases macros names name body e in
    let less = free_less all names name (are name body both.1) both.0 in
    some_replacement bytes macros all are n (name ∷ names) (omega (arith, less, l)) inside body) line ts

-- whatever the names
pub replaced_somehow : (bytes : List ℕ) (macros : Macros) (all : List (List ℕ)) → AreNames macros all → (names : List (List ℕ)) (line : Option ℕ) (ts : List Token) → Some_of bytes macros names line ts
replaced_somehow bytes macros all are names line ts = some_replacement bytes macros all are (free all names + 1) names (omega arith) line ts

pub waits_somehow : (bytes : List ℕ) (macros : Macros) (all : List (List ℕ)) → AreNames macros all → (nodes : List Node) (rests : List Waiting) (opens : Opens) → (found : List Token) × Waits bytes macros nodes rests opens found
waits_somehow bytes macros all are nodes [] opens = ([], refl)
waits_somehow bytes macros all are nodes (r ∷ rs) opens =
    let front = replaced_somehow bytes macros all are (names_at nodes opens) r.1 r.0 in
    let more = waits_somehow bytes macros all are nodes rs (outer opens) in
    (front.0 ++ more.0, (front.0, more.0, front.1, more.1, refl))

-- the names of a map's entries
entry_names : (es : Entries) → AreNames (macros_in es) (map (λ e. e.0.items) es)
entry_names [] name body h = cc
entry_names (e ∷ es) name body h = by (bytes_eq name e.0.items) h (λ f. entry_names es name body f) where
  by : (b : Bool) → option_map tokens_of (option_and_then (λ (o : Option Line). o) (cond b (Some e.1) (lookup (λ (k : Vec ℕ Global). pointwise nat_eq name k.items) es))) ≡ Some body →
      (macros_in es name ≡ Some body → list_any (bytes_eq name) (map (λ (x : Vec ℕ Global × Option Line). x.0.items) es) ≡ true) →
      (b || list_any (bytes_eq name) (map (λ (x : Vec ℕ Global × Option Line). x.0.items) es)) ≡ true
  by true f on = refl
  by false f on = on f

pub entries_wait : (bytes : List ℕ) (es : Entries) (nodes : List Node) (rests : List Waiting) (opens : Opens) → (found : List Token) × Waits bytes (macros_in es) nodes rests opens found
entries_wait bytes es nodes rests opens = waits_somehow bytes (macros_in es) (map (λ e. e.0.items) es) (entry_names es) nodes rests opens
