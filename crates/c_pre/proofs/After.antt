-- The macros in a map after a name is given another body.
use Rattle.std.proofs.Common.{◌≡◌, Bool, true, false, ◌||◌, List, [], ◌∷◌, ◌++◌, ℕ, Option, Some, None, nat_eq, refl, sym, ap, subst, ◌∙◌}
use Rattle.std.specs.Prelude.{if◌then◌else◌, Vec, option_map}
use Rattle.std.specs.Option.{option_and_then}
use Rattle.std.specs.Map.{lookup}
use Rattle.std.specs.Str.{bytes_eq}
use Rattle.std.specs.Cmp.Lexicographic.{pointwise}
use Rattle.std.specs.Global.{Global}
use Rattle.std.proofs.lemmas.Slice.Eq.{bytes_eq-Decides}
use Rattle.std.proofs.lemmas.Bool.{false_from_ne_true, false≢true}
use Rattle.std.proofs.lemmas.List.Folds.{list_any-append}
use Rattle.indexmap.specs.IndexMap.{insert_entry}
use Rattle.indexmap.specs.IndexSet.{insert_key}
use Rattle.c_token.specs.declared.token.Token.{Token}
use Rattle.c_pre.specs.declared.lines.Line.{Line}
use Rattle.c_pre.specs.declared.known.Fate.{Fate}
use Rattle.c_pre.specs.Known.{FateEntries, fates_in, with_fate, is_in, Precedes}
use Rattle.c_pre.proofs.Marked.{precedes_pushed}
use Rattle.c_pre.specs.Macros.{Macros, with_body}
use Rattle.c_pre.specs.Views.{Entries, tokens_of, macros_in}

abbrev body : Option (Option Line) → Option (List Token)
body o = option_map tokens_of (option_and_then (λ (b : Option Line). b) o)

alone : (x : Bool) (v : Option Line) → body (if x then Some v else None) ≡ (if x then option_map tokens_of v else None)
alone true v = refl
alone false v = refl

written : (x : Bool) (v w : Option Line) (rest : Option (Option Line)) → body (if x then Some v else rest) ≡ (if x then option_map tokens_of v else body (if x then Some w else rest))
written true v w rest = refl
written false v w rest = refl

passed : (x y : Bool) (v w : Option Line) (new old : Option (Option Line)) → (x ≡ true → y ≡ false) → body new ≡ (if y then option_map tokens_of v else body old) →
    body (if x then Some w else new) ≡ (if y then option_map tokens_of v else body (if x then Some w else old))
passed true y v w new old apart same = ap (λ (b : Bool). if b then option_map tokens_of v else option_map tokens_of w) (sym (apart refl))
passed false y v w new old apart same = same

same_name : (a b : List ℕ) → bytes_eq a b ≡ true → a ≡ b
same_name a b e = (bytes_eq-Decides a b).0 e

others_name : (n a b : List ℕ) → bytes_eq n b ≡ true → bytes_eq a b ≡ false → bytes_eq n a ≡ false
others_name n a b here apart =
    false_from_ne_true (bytes_eq n a) (λ same. false≢true (sym apart ∙ (bytes_eq-Decides a b).1 (sym (same_name n a same) ∙ same_name n b here)))

pub macros_after : (es : Entries) (k : Vec ℕ Global) (v : Option Line) (n : List ℕ) →
    macros_in (insert_entry (λ (x y : Vec ℕ Global). pointwise nat_eq x.items y.items) es k v) n ≡ with_body k.items (option_map tokens_of v) (macros_in es) n
macros_after [] k v n = alone (bytes_eq n k.items) v
macros_after (e ∷ es) k v n = either (macros_after es k v n) (bytes_eq k.items e.0.items) refl where
  rest : Entries
  rest = insert_entry (λ (x y : Vec ℕ Global). pointwise nat_eq x.items y.items) es k v

  after : Entries → Type 0
  after xs = macros_in xs n ≡ (if bytes_eq n k.items then option_map tokens_of v else macros_in (e ∷ es) n)

  either : (macros_in rest n ≡ (if bytes_eq n k.items then option_map tokens_of v else macros_in es n)) → (b : Bool) → bytes_eq k.items e.0.items ≡ b → after (if b then (e.0, v) ∷ es else e ∷ rest)
  either before true same =
      subst (λ (ks : List ℕ). macros_in ((e.0, v) ∷ es) n ≡ (if bytes_eq n ks then option_map tokens_of v else macros_in (e ∷ es) n))
      (sym (same_name k.items e.0.items same)) (written (bytes_eq n e.0.items) v e.1 (lookup (λ (x : Vec ℕ Global). pointwise nat_eq n x.items) es))
  either before false apart =
      passed (bytes_eq n e.0.items) (bytes_eq n k.items) v e.1 (lookup (λ (x : Vec ℕ Global). pointwise nat_eq n x.items) rest) (lookup (λ (x : Vec ℕ Global). pointwise nat_eq n x.items) es)
      (λ here. others_name n k.items e.0.items here apart) before

-- macros that replace each name alike are the same
pub same_macros : (a b : Macros) → ((name : List ℕ) → a name ≡ b name) → a ≡ b
same_macros a b h = λ i name. h name i

pub set_as : (es new : Entries) (k : Vec ℕ Global) (name : List ℕ) (v : Option Line) → k.items ≡ name → new ≡ insert_entry (λ (x y : Vec ℕ Global). pointwise nat_eq x.items y.items) es k v →
    macros_in new ≡ with_body name (option_map tokens_of v) (macros_in es)
set_as es new k name v same e =
    same_macros (macros_in new) (with_body name (option_map tokens_of v) (macros_in es))
    (λ n. ap (λ (xs : Entries). macros_in xs n) e ∙ macros_after es k v n ∙ ap (λ (x : List ℕ). with_body x (option_map tokens_of v) (macros_in es) n) same)

abbrev fated : Option (Option Fate) → Option Fate
fated o = option_and_then (λ (s : Option Fate). s) o

fate_alone : (x : Bool) (v : Option Fate) → fated (if x then Some v else None) ≡ (if x then v else None)
fate_alone true v = refl
fate_alone false v = refl

fate_written : (x : Bool) (v w : Option Fate) (rest : Option (Option Fate)) → fated (if x then Some v else rest) ≡ (if x then v else fated (if x then Some w else rest))
fate_written true v w rest = refl
fate_written false v w rest = refl

fate_passed : (x y : Bool) (v w : Option Fate) (new old : Option (Option Fate)) → (x ≡ true → y ≡ false) → fated new ≡ (if y then v else fated old) →
    fated (if x then Some w else new) ≡ (if y then v else fated (if x then Some w else old))
fate_passed true y v w new old apart same = ap (λ (b : Bool). if b then v else w) (sym (apart refl))
fate_passed false y v w new old apart same = same

fates_after : (es : FateEntries) (k : Vec ℕ Global) (v : Option Fate) (n : List ℕ) →
    fates_in (insert_entry (λ (x y : Vec ℕ Global). pointwise nat_eq x.items y.items) es k v) n ≡ with_fate k.items v (fates_in es) n
fates_after [] k v n = fate_alone (bytes_eq n k.items) v
fates_after (e ∷ es) k v n = either (fates_after es k v n) (bytes_eq k.items e.0.items) refl where
  rest : FateEntries
  rest = insert_entry (λ (x y : Vec ℕ Global). pointwise nat_eq x.items y.items) es k v

  after : FateEntries → Type 0
  after xs = fates_in xs n ≡ (if bytes_eq n k.items then v else fates_in (e ∷ es) n)

  either : (fates_in rest n ≡ (if bytes_eq n k.items then v else fates_in es n)) → (b : Bool) → bytes_eq k.items e.0.items ≡ b → after (if b then (e.0, v) ∷ es else e ∷ rest)
  either before true same =
      subst (λ (ks : List ℕ). fates_in ((e.0, v) ∷ es) n ≡ (if bytes_eq n ks then v else fates_in (e ∷ es) n))
      (sym (same_name k.items e.0.items same)) (fate_written (bytes_eq n e.0.items) v e.1 (lookup (λ (x : Vec ℕ Global). pointwise nat_eq n x.items) es))
  either before false apart =
      fate_passed (bytes_eq n e.0.items) (bytes_eq n k.items) v e.1 (lookup (λ (x : Vec ℕ Global). pointwise nat_eq n x.items) rest) (lookup (λ (x : Vec ℕ Global). pointwise nat_eq n x.items) es)
      (λ here. others_name n k.items e.0.items here apart) before

pub note_as : (es new : FateEntries) (k : Vec ℕ Global) (v : Option Fate) → new ≡ insert_entry (λ (x y : Vec ℕ Global). pointwise nat_eq x.items y.items) es k v →
    fates_in new ≡ with_fate k.items v (fates_in es)
note_as es new k v e = ap fates_in e ∙ (λ i n. fates_after es k v n i)

or_last : (a b : Bool) → b ≡ true → (a || (b || false)) ≡ true
or_last true b e = refl
or_last false true e = refl
or_last false false e = cc

-- a name that is marked, and the others
pub mark_as : (keys new : List (Vec ℕ Global)) (k : Vec ℕ Global) (name : List ℕ) → k.items ≡ name → is_in keys name ≡ false →
    new ≡ insert_key (λ (x y : Vec ℕ Global). pointwise nat_eq x.items y.items) keys k → (is_in new name ≡ true) × Precedes keys new
mark_as keys new k name same out e =
    (grown name ∙ or_last (is_in keys name) (bytes_eq name k.items) ((bytes_eq-Decides name k.items).1 (sym same)), precedes_pushed keys new k put) where
      put : new ≡ keys ++ k ∷ []
      put = e ∙ ap (λ (b : Bool). if b then keys else keys ++ k ∷ []) (ap (λ (x : List ℕ). is_in keys x) same ∙ out)

      grown : (x : List ℕ) → is_in new x ≡ (is_in keys x || (bytes_eq x k.items || false))
      grown x = ap (λ (ks : List (Vec ℕ Global)). is_in ks x) put ∙ list_any-append (λ (y : Vec ℕ Global). pointwise nat_eq x y.items) keys (k ∷ [])
