-- The table of classes has each class.
use Rattle.std.proofs.Common.{◌≡◌, ℕ, Bool, true, List, [], ◌∷◌, Option, Some, None, MatchOption, refl, sym, ap, ◌∙◌, subst, inl, inr}
use Rattle.std.proofs.lemmas.Bool.{cases_Bool}
use Rattle.std.proofs.lemmas.Option.{none-some}
use Rattle.std.proofs.lemmas.Slice.Eq.{bytes_eq-Decides}
use Rattle.std.specs.List.{find}
use Rattle.std.specs.Str.{bytes_eq}
use Rattle.words.specs.declared.check.Class.{Class}
use Rattle.words.specs.declared.check.Class.TheVariants as classes
use Rattle.report.specs.Report.{class_name}
use Rattle.report.specs.ClassNames.{class_of}
use Rattle.report.specs.declared.lines.TheConstants.{CLASSES}

class_back : (c : Class) → class_of (class_name c) ≡ Some c
class_back classes.Assertion = refl
class_back _ = refl

found_passes : {X : Type 0} (p : X → Bool) (xs : List X) (x : X) → find p xs ≡ Some x → p x ≡ true
found_passes p [] x h = cc
found_passes p (y ∷ ys) x h =
    elim (cases_Bool (p y)) [
      | inl e ↦ let k : Some y ≡ Some x = sym (rw e refl) ∙ h in subst (λ z. p z ≡ true) (let i : y ≡ x = cc in i) e
      | inr e ↦ found_passes p ys x (let k : find p ys ≡ Some x = rw e at h in k)
    ]

pub found_class : (name : List ℕ) (r : Option Class) → r ≡ class_of name → MatchOption r ((class : Class) → name ≡ class_name class → ⊥) (λ class. name ≡ class_name class)
found_class name None e = λ class is. none-some class (e ∙ ap class_of is ∙ class_back class)
found_class name (Some class) e = sym ((bytes_eq-Decides (class_name class) name).0 (found_passes (λ c. bytes_eq (class_name c) name) CLASSES class (sym e)))
