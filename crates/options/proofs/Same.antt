-- Words ask for one thing at most.
use Rattle.std.proofs.Common.{◌≡◌, ◌∙◌, ℕ, Bool, true, false, not, refl, sym, ap, subst, List, [], drop, fold, bytes_eq, Option, Some, None, codes}
use Rattle.std.specs.Option.{option_map_or}
use Rattle.clap.specs.Walk.{Row, Text, first_of, one_of, row_text, with_default}
use Rattle.core_tree.specs.Ranges.{Limits, LoopLimit}
use Rattle.options.specs.declared.options.Job.{Job}
use Rattle.options.specs.Table.{flag, kind_of_option}
use Rattle.options.specs.Words.{Given, Reads, value_given, is_given, file_name}
use Rattle.options.specs.Values.{AreLimits, IsChosen}
use Rattle.options.specs.Command.{Asked, Asks, IsCommand, IsJob, IsTarget, generated_name}
use Rattle.options.proofs.Built.{rules}
use Rattle.options.proofs.Rows.{rows_for}
use Rattle.options.proofs.Finished.{default_of_id, value_told, flag_told, stays_true}
use Rattle.options.proofs.Taken.{takes_words, none_before}
use Rattle.options.proofs.Digits.{number_same}
use Rattle.options.proofs.Items.{limits_same}

abbrev rows_at_end : List Given → List Row
rows_at_end all = fold with_default (rows_for all) rules

rows_same : (words : List Text) (all more : List Given) → Reads [] (drop 1 words) all → Reads [] (drop 1 words) more → rows_at_end all ≡ rows_at_end more
rows_same words all more r s = sym (takes_words words all r).1 ∙ (takes_words words more s).1

value_same : (words : List Text) (all more : List Given) → Reads [] (drop 1 words) all → Reads [] (drop 1 words) more → (name : Text) → default_of_id name rules ≡ None
    → value_given name all ≡ value_given name more
value_same words all more r s name none = sym (value_told name all none) ∙ ap (first_of name) (rows_same words all more r s) ∙ value_told name more none

-- what a flag's row says
abbrev row_says_false : Row → Type 0
row_says_false row = row_text row ≡ Some (codes "false")

abbrev says : Option Text → Bool
says o = option_map_or (λ t. bytes_eq t (codes "true")) o false

flag_is : (words : List Text) (all : List Given) → Reads [] (drop 1 words) all → (name : Text) → kind_of_option name ≡ Some flag → (row : Row) → default_of_id name rules ≡ Some row
    → row_says_false row → says (one_of name (rows_at_end all)) ≡ is_given name all
flag_is words all r name is row default text =
    flag_told name all (says (one_of name (rows_at_end all))) row default text (stays_true name is [] all (drop 1 words) r (none_before name)) (λ e. ap says e) (λ e. ap says e)

flag_same : (words : List Text) (all more : List Given) → Reads [] (drop 1 words) all → Reads [] (drop 1 words) more → (name : Text) → kind_of_option name ≡ Some flag → (row : Row)
    → default_of_id name rules ≡ Some row → row_says_false row → is_given name all ≡ is_given name more
flag_same words all more r s name is row default text =
    sym (flag_is words all r name is row default text) ∙ ap (λ (rows : List Row). says (one_of name rows)) (rows_same words all more r s) ∙ flag_is words more s name is row default text

chosen_same : (default least most : ℕ) (o : Option Text) (m n : ℕ) → IsChosen default least most o m → IsChosen default least most o n → m ≡ n
chosen_same default least most None m n a b = a ∙ sym b
chosen_same default least most (Some text) m n a b = number_same text m n a.number b.number

job_same : (b : Bool) (i j : Job) → IsJob b i → IsJob b j → i ≡ j
job_same false i j a b = a ∙ sym b
job_same true i j a b = a ∙ sym b

target_same : (file text : Option Text) (f g : Text) (m n : Option ℕ) → IsTarget file text f m → IsTarget file text g n → (f ≡ g) × (m ≡ n)
target_same (Some file) None f g m n a b = (a.1 ∙ sym b.1, a.2 ∙ sym b.2)
target_same None (Some text) f g (Some m) (Some n) a b =
    let same : m ≡ n = number_same text m n a.0.number b.0.number in
    (a.1 ∙ ap generated_name same ∙ sym b.1, ap Some same)
target_same None (Some text) f g None n a b = absurd a
target_same None (Some text) f g (Some m) None a b = absurd b
target_same (Some file) (Some text) f g m n a b = absurd a
target_same None None f g m n a b = absurd a

limits_made : (l m : Limits) → l.unwind ≡ m.unwind → l.set ≡ m.set → l.assertions ≡ m.assertions → l.malloc_limit ≡ m.malloc_limit → l.malloc_may_fail ≡ m.malloc_may_fail → l ≡ m
limits_made l m a b c d e =
    let make : ℕ → List LoopLimit → Bool → ℕ → Bool → Limits = λ u s t n f. record { unwind = u; set = s; assertions = t; malloc_limit = n; malloc_may_fail = f } in
    ap (λ (u : ℕ). make u l.set l.assertions l.malloc_limit l.malloc_may_fail) a ∙ ap (λ (s : List LoopLimit). make m.unwind s l.assertions l.malloc_limit l.malloc_may_fail) b
    ∙ ap (λ (t : Bool). make m.unwind m.set t l.malloc_limit l.malloc_may_fail) c ∙ ap (λ (n : ℕ). make m.unwind m.set m.assertions n l.malloc_may_fail) d
    ∙ ap (λ (f : Bool). make m.unwind m.set m.assertions m.malloc_limit f) e

asked_made : (a b : Asked) → a.name ≡ b.name → a.limits ≡ b.limits → a.budget ≡ b.budget → a.job ≡ b.job → a.generate ≡ b.generate → a ≡ b
asked_made a b c d e f g =
    let make : Text → Limits → ℕ → Job → Option ℕ → Asked = λ n l u j o. record { name = n; limits = l; budget = u; job = j; generate = o } in
    ap (λ (n : Text). make n a.limits a.budget a.job a.generate) c ∙ ap (λ (l : Limits). make b.name l a.budget a.job a.generate) d
    ∙ ap (λ (u : ℕ). make b.name b.limits u a.job a.generate) e ∙ ap (λ (j : Job). make b.name b.limits b.budget j a.generate) f
    ∙ ap (λ (o : Option ℕ). make b.name b.limits b.budget b.job o) g

module _ (words : List Text) (all more : List Given) (r : Reads [] (drop 1 words) all) (s : Reads [] (drop 1 words) more) where
  value_at : (name : Text) → default_of_id name rules ≡ None → value_given name more ≡ value_given name all
  value_at name none = value_same words more all s r name none

  asks_same : (a b : Asked) → Asks all a → Asks more b → a ≡ b
  asks_same a b x y =
      let chosen = λ (name : Text) (none : default_of_id name rules ≡ None) (default least most m n : ℕ) (p : IsChosen default least most (value_given name all) m) (q : IsChosen default least most (value_given name more) n).
      chosen_same default least most (value_given name all) m n p (subst (λ (o : Option Text). IsChosen default least most o n) (value_at name none) q) in
      let target = target_same (value_given file_name all) (value_given (codes "generate") all) a.name b.name a.generate b.generate x.target
      (subst (λ (o : Option Text). IsTarget o (value_given (codes "generate") all) b.name b.generate) (value_at file_name refl)
      (subst (λ (o : Option Text). IsTarget (value_given file_name more) o b.name b.generate) (value_at (codes "generate") refl) y.target)) in
      asked_made a b target.0
      (limits_made a.limits b.limits
      (chosen (codes "unwind") refl 8 1 1000 a.limits.unwind b.limits.unwind x.limits.unwind y.limits.unwind)
      (limits_same (value_given (codes "unwindset") all) a.limits.set b.limits.set x.limits.set (subst (λ (o : Option Text). AreLimits o b.limits.set) (value_at (codes "unwindset") refl) y.limits.set))
      (x.limits.assertions ∙ ap not (flag_same words all more r s (codes "no-unwinding-assertions") refl _ refl refl) ∙ sym y.limits.assertions)
      (chosen (codes "malloc-limit") refl 256 1 4096 a.limits.malloc_limit b.limits.malloc_limit x.limits.malloc_limit y.limits.malloc_limit)
      (x.limits.malloc_may_fail ∙ flag_same words all more r s (codes "malloc-may-fail") refl _ refl refl ∙ sym y.limits.malloc_may_fail))
      (chosen (codes "budget") refl 1000000 1 1000000000 a.budget b.budget x.budget y.budget)
      (job_same (is_given (codes "show-properties") all) a.job b.job x.job (subst (λ (t : Bool). IsJob t b.job) (flag_same words more all s r (codes "show-properties") refl _ refl refl) y.job))
      target.1

pub one_command : (words : List Text) (a b : Asked) → IsCommand words a → IsCommand words b → a ≡ b
one_command words a b x y = asks_same words x.0 y.0 x.1 y.1 a b x.2 y.2
