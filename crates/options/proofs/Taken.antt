-- What a parse of the command gives, by the words.
use Rattle.std.proofs.Common.{◌≡◌, ◌∙◌, ℕ, Bool, cond, true, false, true≢false, refl, sym, ap, subst, ⊎_elim, List, [], ◌∷◌, ◌++◌, map, fold, drop, Option, Some, None, is_some, codes, String, string_bytes}
use Rattle.std.proofs.lemmas.Str.{IsUtf8-string_bytes}
use Rattle.clap.specs.Kinds.{HasKind, IsAmong, Kinds, or_else}
use Rattle.clap.specs.Faults.{check_fault, defaults_fault, fault_of, settle_fault, walk_fault}
use Rattle.clap.specs.Matches.{first_value, one_text}
use Rattle.clap.specs.Simple.{App, matches_of}
use Rattle.clap.specs.Values.{kind_of}
use Rattle.clap.specs.Walk.{Row, Text, first_of, idle, one_of, nothing_held, rows_of, settled, walk, with_default}
use Rattle.clap.specs.declared.error.Error.{Error}
use Rattle.clap.specs.declared.error.kind.ErrorKind.TheVariants.{OutOfMemory}
use Rattle.clap.specs.declared.parser.matches.Found.{Found}
use Rattle.clap.proofs.FaultLemmas.{leaf_fault}
use Rattle.clap.proofs.WalkLemmas.{first_value-rows, one_text-rows}
use Rattle.options.specs.Table.{Kind, valued, flag, table}
use Rattle.options.specs.Words.{Given, Reads, file_name, value_given}
use Rattle.options.specs.Parser.{command}
use Rattle.options.specs.Told.{HasTexts, Tells}
use Rattle.options.specs.declared.texts.Texts.{Texts}
use Rattle.options.proofs.Built.{rules, shape_over, taken, taken_file}
use Rattle.options.proofs.Known.{known}
use Rattle.options.proofs.Steps.{both_pass, nothing_behind, run_fault, run_rows, walk_at}
use Rattle.options.proofs.Rows.{rows_for}
use Rattle.options.proofs.Runs.{AllUtf8, backward, forward}
use Rattle.options.proofs.Finished.{default_of_id, flag_told, stays_true, value_told}

same_either : (b : Bool) → cond {A = Kinds} b [] [] ≡ []
same_either true = refl
same_either false = refl

no_default_fault : (t : List (List ℕ × Kind)) (rows : List Row) → defaults_fault rows (map taken t ++ taken_file ∷ []) ≡ []
unfolding defaults_fault
no_default_fault [] rows = both_pass _ [] (same_either _) refl
no_default_fault ((name, valued) ∷ t) rows = both_pass _ _ (same_either _) (no_default_fault t (with_default rows (taken (name, valued))))
no_default_fault ((name, flag) ∷ t) rows = both_pass _ _ (same_either _) (no_default_fault t (with_default rows (taken (name, flag))))

no_check_fault : (rows : List Row) → check_fault (shape_over rules) rows false ≡ []
no_check_fault rows = refl

abbrev found_by : List Text → List Row
found_by words = fold with_default (run_rows rules (walk_at [] None idle false false) words) rules

pub fault_is : (words : List Text) → fault_of command words ≡ run_fault rules (walk_at [] None idle false false) (drop 1 words)
fault_is words =
    let last = (walk rules [] nothing_held (drop 1 words)).held in
    let ends : or_else (defaults_fault (settled rules last).rows rules) (check_fault (shape_over rules) (fold with_default (settled rules last).rows rules) false) ≡ [] =
    both_pass _ _ (no_default_fault table (settled rules last).rows) (no_check_fault (fold with_default (settled rules last).rows rules)) in
    leaf_fault (record { top = shape_over rules; subs = [] }) nothing_held (drop 1 words) refl
    ∙ ap (λ (x : Kinds). or_else (walk_fault (shape_over rules) [] (walk_at [] None idle false false) (drop 1 words)) (or_else (settle_fault rules false last) x)) ends
    ∙ ap (or_else (walk_fault (shape_over rules) [] (walk_at [] None idle false false) (drop 1 words))) (nothing_behind (settle_fault rules false last))

pub matches_are : (words : List Text) → matches_of command words ≡ found_by (drop 1 words)
matches_are words = refl

pub taken_words : (words : List Text) → AllUtf8 (drop 1 words) → fault_of command words ≡ [] → (all : List Given) × Reads [] (drop 1 words) all × (matches_of command words ≡ fold with_default (rows_for all) rules)
taken_words words u none =
    let got = backward rules known (drop 1 words) u (sym (fault_is words) ∙ none) in
    (got.0, got.1, matches_are words ∙ ap (λ (rows : List Row). fold with_default rows rules) got.2)

pub takes_words : (words : List Text) (all : List Given) → Reads [] (drop 1 words) all → (fault_of command words ≡ []) × (matches_of command words ≡ fold with_default (rows_for all) rules)
takes_words words all r =
    let got = forward rules known (drop 1 words) all r in
    (fault_is words ∙ got.0, matches_are words ∙ ap (λ (rows : List Row). fold with_default rows rules) got.1)

pub none_before : (name v : Text) → value_given name [] ≡ Some v → v ≡ codes "true"
none_before name v e = absurd (true≢false (sym (ap (λ (o : Option Text). is_some o) e)))

pub texts_are : (f : Found) (t : Texts) (all : List Given) (words : List Text) → Tells f t → rows_of f ≡ fold with_default (rows_for all) rules → Reads [] words all → HasTexts all t
texts_are f t all words tells rows r = record {
  unwind = tells.unwind ∙ value (codes "unwind") refl;
  unwindset = tells.unwindset ∙ value (codes "unwindset") refl;
  no_assertions = flag_told (codes "no-unwinding-assertions") all t.no_assertions _ refl refl (stays_true (codes "no-unwinding-assertions") refl [] all words r (none_before (codes "no-unwinding-assertions")))
      (λ e. tells.no_assertions.0 (text (codes "no-unwinding-assertions") ∙ e)) (λ e. tells.no_assertions.1 (text (codes "no-unwinding-assertions") ∙ e));
  malloc_limit = tells.malloc_limit ∙ value (codes "malloc-limit") refl;
  malloc_may_fail = flag_told (codes "malloc-may-fail") all t.malloc_may_fail _ refl refl (stays_true (codes "malloc-may-fail") refl [] all words r (none_before (codes "malloc-may-fail")))
      (λ e. tells.malloc_may_fail.0 (text (codes "malloc-may-fail") ∙ e)) (λ e. tells.malloc_may_fail.1 (text (codes "malloc-may-fail") ∙ e));
  budget = tells.budget ∙ value (codes "budget") refl;
  properties = flag_told (codes "show-properties") all t.properties _ refl refl (stays_true (codes "show-properties") refl [] all words r (none_before (codes "show-properties")))
      (λ e. tells.properties.0 (text (codes "show-properties") ∙ e)) (λ e. tells.properties.1 (text (codes "show-properties") ∙ e));
  generate = tells.generate ∙ value (codes "generate") refl;
  file = tells.file ∙ value file_name refl;
}
  where
    value : (name : Text) → default_of_id name rules ≡ None → first_value f name ≡ value_given name all
    value name none = first_value-rows f name ∙ ap (first_of name) rows ∙ value_told name all none

    text : (name : Text) → one_text f name ≡ one_of name (fold with_default (rows_for all) rules)
    text name = one_text-rows f name ∙ ap (one_of name) rows

-- ---- for the reader of the words

utf8_texts : {Z : Type 0} (words : List (String Z)) → AllUtf8 (map string_bytes words)
utf8_texts [] = tt
utf8_texts (word ∷ words) = (IsUtf8-string_bytes word, utf8_texts words)

pub utf8_words : {Z : Type 0} (words : List (String Z)) → AllUtf8 (drop 1 (map string_bytes words))
utf8_words [] = tt
utf8_words (word ∷ words) = utf8_texts words

pub read_given : (a : App) (words : List Text) (f : Found) (t : Texts) → a ≡ command → AllUtf8 (drop 1 words) → fault_of a words ≡ [] → rows_of f ≡ matches_of a words → Tells f t
    → (all : List Given) × Reads [] (drop 1 words) all × HasTexts all t
read_given a words f t is u none rows tells =
    let got = taken_words words u (ap (λ (x : App). fault_of x words) (sym is) ∙ none) in
    (got.0, got.1, texts_are f t got.0 (drop 1 words) tells (rows ∙ ap (λ (x : App). matches_of x words) is ∙ got.2) got.1)

pub read_each : (a : App) (words : List Text) (f : Found) (t : Texts) → a ≡ command → rows_of f ≡ matches_of a words → Tells f t → (all : List Given) → Reads [] (drop 1 words) all → HasTexts all t
read_each a words f t is rows tells all r = texts_are f t all (drop 1 words) tells (rows ∙ ap (λ (x : App). matches_of x words) is ∙ (takes_words words all r).1) r

pub read_usage : (a : App) (words : List Text) (e : Error) → a ≡ command → HasKind (fault_of a words) e → (kind_of e ≡ OutOfMemory → ⊥) → (all : List Given) → Reads [] (drop 1 words) all → ⊥
read_usage a words e is fails other all r = ⊎_elim other (λ among. subst (IsAmong (kind_of e)) (ap (λ (x : App). fault_of x words) is ∙ (takes_words words all r).0) among) fails
