-- The lists of words that clap takes, and what it finds in them.
use Rattle.std.proofs.Common.{◌≡◌, ◌∙◌, ◌≤◌, ◌||◌, ◌&&◌, ℕ, Bool, cond, true, false, zero, suc, refl, sym, ap, subst, true≢false, arith, List, [], ◌∷◌, ◌++◌, length, Option, Some, None, option_map, codes, bytes_eq, IsUtf8}
use Rattle.std.specs.Prelude.{⊤}
use Rattle.std.specs.Option.{option_map_or}
use Rattle.clap.specs.Lexer.{long_of, name_and_value}
use Rattle.clap.specs.Kinds.{Kinds, or_else}
use Rattle.clap.specs.Faults.{settle_fault, use_fault, walk_fault}
use Rattle.clap.specs.Walk.{Row, Rule, Text, Walk, Waiting, idle, option, has_row, settled_rows, used, used_by_id}
use Rattle.clap.specs.declared.error.kind.ErrorKind.{ErrorKind}
use Rattle.clap.specs.declared.error.kind.ErrorKind.TheVariants as kind
use Rattle.options.specs.Table.{Kind, valued, flag, kind_of_option}
use Rattle.options.specs.Words.{Given, given, Reads, end, apart, joined, alone, file, stop, stop_file, is_given, is_dashed, dashes, file_name}
use Rattle.options.proofs.Built.{taken, taken_file}
use Rattle.options.proofs.Known.{Knows, Joins, fine, joins}
use Rattle.options.proofs.Rows.{given_more, is_given_row, rows_for, rows_more}
use Rattle.options.proofs.Steps.{Looks, looks, Pending, alone_outcome, apart_outcome, walk_at, by_rule, conflict, due, fault_more, fault_then, file_outcome, first_passes, joined_outcome, long_outcome, next_passes, no_second, no_short_option, no_trailing_second, outcome, both_pass, rows_then, run_fault, run_rows, stop_outcome, trailing_file, value_outcome}
use Rattle.options.proofs.Steps.{plain as plain_look, stop as stop_look, long as long_look, short as short_look}

abbrev has_kind : Kinds → Bool
has_kind [] = false
has_kind (x ∷ xs) = true

some_kind : (x : ErrorKind) (xs : Kinds) → x ∷ xs ≡ [] → ⊥
some_kind x xs e = true≢false (ap has_kind e)

abbrev pub AllUtf8 : List Text → Type 0
AllUtf8 [] = ⊤
AllUtf8 (word ∷ words) = IsUtf8 word × AllUtf8 words

or_true : (b : Bool) → (b || true) ≡ true
or_true true = refl
or_true false = refl

or_false : (b : Bool) → (b || false) ≡ b
or_false true = refl
or_false false = refl

conflict_tells : (name : Text) (rows : List Row) → conflict name rows ≡ [] → has_row name rows ≡ false
conflict_tells name rows e = go (has_row name rows) e
  where
    go : (b : Bool) → or_else (cond (b && true) (kind.ArgumentConflict ∷ []) []) [] ≡ [] → b ≡ false
    go true e = absurd (some_kind kind.ArgumentConflict [] e)
    go false e = refl

no_conflict : (name : Text) (rows : List Row) → has_row name rows ≡ false → conflict name rows ≡ []
no_conflict name rows e = ap (λ (b : Bool). or_else (cond (b && true) (kind.ArgumentConflict ∷ []) []) []) e

fault_end : (c : List Rule) (w : Walk) → run_fault c w [] ≡ settle_fault c false w.held
unfolding walk_fault
fault_end c w = refl

module _ (c : List Rule) (k : Knows c) where
  refused : (w : Walk) (word : Text) (words : List Text) (x : ErrorKind) → (outcome c w word).0 ≡ x ∷ [] → run_fault c w (word ∷ words) ≡ [] → ⊥
  refused w word words x e clean =
      let none : (outcome c w word).0 ≡ [] = first_passes _ _ (sym (fault_more c w word words) ∙ clean) in
      some_kind x [] (sym e ∙ none)

  -- ---- what is pending

  value_due : (rows : List Row) (name v : Text) → kind_of_option name ≡ Some valued → due c rows (Some (name, v ∷ [])) ≡ conflict name rows
  value_due rows name v is = ap (λ (o : Option Rule). option_map_or (λ a. use_fault false a (v ∷ []) rows) o []) (k.id name valued is)

  value_rows : (rows : List Row) (name v : Text) → kind_of_option name ≡ Some valued → settled_rows c (Some (name, v ∷ [])) rows ≡ used (taken (name, valued)) (v ∷ []) rows
  value_rows rows name v is = ap (λ (o : Option Rule). used_by_id o (v ∷ []) rows) (k.id name valued is)

  file_due : (rows : List Row) (v : Text) → due c rows (Some (file_name, v ∷ [])) ≡ conflict file_name rows
  file_due rows v = ap (λ (o : Option Rule). option_map_or (λ a. use_fault false a (v ∷ []) rows) o []) k.file

  file_rows : (rows : List Row) (v : Text) → settled_rows c (Some (file_name, v ∷ [])) rows ≡ used taken_file (v ∷ []) rows
  file_rows rows v = ap (λ (o : Option Rule). used_by_id o (v ∷ []) rows) k.file

  no_value_due : (rows : List Row) (name : Text) → kind_of_option name ≡ Some valued → due c rows (Some (name, [])) ≡ kind.InvalidValue ∷ []
  no_value_due rows name is = ap (λ (o : Option Rule). option_map_or (λ a. use_fault false a [] rows) o []) (k.id name valued is)

  -- ---- what is pending passes, where the rest does

  long_by : (rows : List Row) (p : Pending) (waits : Waiting) (f : Bool) (x : ℕ) (xs : Text)
      → outcome c (walk_at rows p waits f false) (dashes (x ∷ xs)) ≡ by_rule c rows p waits f (dashes (x ∷ xs)) (name_and_value (x ∷ xs)).1 (option_map (λ (d : Kind). taken ((name_and_value (x ∷ xs)).0, d)) (kind_of_option (name_and_value (x ∷ xs)).0))
  long_by rows p waits f x xs = long_outcome c rows p waits f (dashes (x ∷ xs)) (name_and_value (x ∷ xs)).0 (name_and_value (x ∷ xs)).1 _ refl refl (k.long (name_and_value (x ∷ xs)).0)

  module _ (rows : List Row) (p : Pending) where
    trailing_due : (waits : Waiting) (f : Bool) (words : List Text) → run_fault c (walk_at rows p waits f true) words ≡ [] → due c rows p ≡ []
    trailing_due waits f [] clean = sym (fault_end c (walk_at rows p waits f true)) ∙ clean
    trailing_due waits false (word ∷ words) clean = first_passes _ _ (sym (fault_then c _ _ _ word words (trailing_file c rows p k waits word)) ∙ clean)
    trailing_due waits true (word ∷ words) clean = absurd (refused _ word words kind.UnknownArgument (no_trailing_second c rows p k waits word) clean)

    early_long : (waits : Waiting) (f : Bool) (x : ℕ) (xs : Text) (words : List Text) → run_fault c (walk_at rows p waits f false) (dashes (x ∷ xs) ∷ words) ≡ [] → due c rows p ≡ []
    early_long waits f x xs words clean = go (kind_of_option (name_and_value (x ∷ xs)).0) (name_and_value (x ∷ xs)).0 (name_and_value (x ∷ xs)).1 (long_by rows p waits f x xs)
      where
        go : (d : Option Kind) (name : Text) (v : Option Text) → outcome c (walk_at rows p waits f false) (dashes (x ∷ xs)) ≡ by_rule c rows p waits f (dashes (x ∷ xs)) v (option_map (λ (e : Kind). taken (name, e)) d) → due c rows p ≡ []
        go None name v e = absurd (refused _ _ words kind.UnknownArgument (ap (λ o. o.0) e) clean)
        go (Some valued) name None e = first_passes _ _ (sym (fault_then c _ _ _ _ words (e ∙ apart_outcome c rows p waits f (dashes (x ∷ xs)) name)) ∙ clean)
        go (Some valued) name (Some v) e = first_passes _ _ (first_passes _ _ (sym (fault_then c _ _ _ _ words (e ∙ joined_outcome c rows p waits f (dashes (x ∷ xs)) name v)) ∙ clean))
        go (Some flag) name None e = first_passes _ _ (first_passes _ _ (sym (fault_then c _ _ _ _ words (e ∙ alone_outcome c rows p waits f (dashes (x ∷ xs)) name)) ∙ clean))
        go (Some flag) name (Some v) e = absurd (refused _ _ words kind.TooManyValues (ap (λ o. o.0) e) clean)

    early_word : (waits : Waiting) (f : Bool) (word : Text) (words : List Text) → Looks word → IsUtf8 word → (is_dashed word ≡ false → due c rows p ≡ [])
        → run_fault c (walk_at rows p waits f false) (word ∷ words) ≡ [] → due c rows p ≡ []
    early_word waits f word words (plain_look _ e) u h clean = h e
    early_word waits f _ words stop_look u h clean = trailing_due waits f words (sym (fault_then c _ _ _ _ words (stop_outcome c rows p waits f)) ∙ clean)
    early_word waits f _ words (long_look x xs) u h clean = early_long waits f x xs words clean
    early_word waits f _ words (short_look y rest e) u h clean = absurd (refused _ _ words kind.UnknownArgument (no_short_option c rows p k waits f y rest e u) clean)

    early : (f : Bool) (words : List Text) → AllUtf8 words → run_fault c (walk_at rows p idle f false) words ≡ [] → due c rows p ≡ []
    early f [] u clean = sym (fault_end c (walk_at rows p idle f false)) ∙ clean
    early f (word ∷ words) u clean = early_word idle f word words (looks word) u.0 (plain_first f) clean
      where
        plain_first : (g : Bool) → is_dashed word ≡ false → due c rows p ≡ []
        plain_first g e = by f clean
          where
            by : (b : Bool) → run_fault c (walk_at rows p idle b false) (word ∷ words) ≡ [] → due c rows p ≡ []
            by false now = first_passes _ _ (sym (fault_then c _ _ _ word words (file_outcome c rows p k word e)) ∙ now)
            by true now = absurd (refused _ word words kind.UnknownArgument (no_second c rows p k word e) now)

  -- ---- where clap takes the words, they are a command's

  record Stands (gs : List Given) (rows : List Row) (p : Pending) (f : Bool) : Type 0 where
    pub named : f ≡ is_given file_name gs
    pub rows_are : due c rows p ≡ [] → settled_rows c p rows ≡ rows_for gs

  abbrev Found : List Text → List Given → List Row → Pending → Bool → Type 0
  Found words gs rows p f = (all : List Given) × Reads gs words all × (run_rows c (walk_at rows p idle f false) words ≡ rows_for all)

  abbrev Back : ℕ → Type 0
  Back n = (words : List Text) (gs : List Given) (rows : List Row) (p : Pending) (f : Bool) → length words ≤ n → Stands gs rows p f → AllUtf8 words
      → run_fault c (walk_at rows p idle f false) words ≡ [] → Found words gs rows p f

  named_more : (gs : List Given) (f : Bool) (name v : Text) → f ≡ is_given file_name gs → bytes_eq name file_name ≡ false → f ≡ is_given file_name (gs ++ given name v ∷ [])
  named_more gs f name v is other = is ∙ sym (or_false (is_given file_name gs)) ∙ ap (λ (b : Bool). is_given file_name gs || b) (sym other) ∙ sym (given_more file_name gs (given name v))

  named_now : (gs : List Given) (v : Text) → true ≡ is_given file_name (gs ++ given file_name v ∷ [])
  named_now gs v = sym (given_more file_name gs (given file_name v) ∙ or_true (is_given file_name gs))

  none_given : (name : Text) (gs : List Given) (rows : List Row) → rows ≡ rows_for gs → conflict name rows ≡ [] → is_given name gs ≡ false
  none_given name gs rows are e = sym (ap (has_row name) are ∙ is_given_row name gs) ∙ conflict_tells name rows e

  module _ (n : ℕ) (ih : Back n) (words : List Text) (gs : List Given) (rows : List Row) (p : Pending) where
    file_case : (f : Bool) (word : Text) → length words ≤ n → Stands gs rows p f → AllUtf8 words → is_dashed word ≡ false → run_fault c (walk_at rows p idle f false) (word ∷ words) ≡ [] → Found (word ∷ words) gs rows p f
    file_case true word le s u e clean = absurd (refused _ word words kind.UnknownArgument (no_second c rows p k word e) clean)
    file_case false word le s u e clean =
        let step = file_outcome c rows p k word e in
        let now = sym (fault_then c _ _ _ word words step) ∙ clean in
        let d : due c rows p ≡ [] = first_passes _ _ now in
        let none : is_given file_name gs ≡ false = sym s.named in
        let got = ih words (gs ++ given file_name word ∷ []) (settled_rows c p rows) (Some (file_name, word ∷ [])) true le (record {
          named = named_now gs word;
          rows_are = λ later. file_rows (settled_rows c p rows) word ∙ rows_more gs (given file_name word) (settled_rows c p rows) (s.rows_are d) none;
        }) u (next_passes _ _ now) in
        (got.0, file gs got.0 word words e none got.1, rows_then c _ _ _ word words step ∙ got.2)

    joined_case : (f : Bool) (x : ℕ) (xs name v : Text) → length words ≤ n → Stands gs rows p f → AllUtf8 words → kind_of_option name ≡ Some valued → x ∷ xs ≡ name ++ 61 ∷ v
        → outcome c (walk_at rows p idle f false) (dashes (x ∷ xs)) ≡ by_rule c rows p idle f (dashes (x ∷ xs)) (Some v) (Some (taken (name, valued)))
        → run_fault c (walk_at rows p idle f false) (dashes (x ∷ xs) ∷ words) ≡ [] → Found (dashes (x ∷ xs) ∷ words) gs rows p f
    joined_case f x xs name v le s u is spelt met clean =
        let step = met ∙ joined_outcome c rows p idle f (dashes (x ∷ xs)) name v in
        let now = sym (fault_then c _ _ _ (dashes (x ∷ xs)) words step) ∙ clean in
        let both = first_passes _ _ now in
        let are = s.rows_are (first_passes _ _ both) in
        let none = none_given name gs (settled_rows c p rows) are (next_passes (due c rows p) _ both) in
        let got = ih words (gs ++ given name v ∷ []) (used (taken (name, valued)) (v ∷ []) (settled_rows c p rows)) None f le (record {
          named = named_more gs f name v s.named (fine name valued is).other;
          rows_are = λ later. rows_more gs (given name v) (settled_rows c p rows) are none;
        }) u (next_passes _ _ now) in
        (got.0, subst (λ (t : Text). Reads gs (dashes t ∷ words) got.0) (sym spelt) (joined gs got.0 name v words is none got.1), rows_then c _ _ _ (dashes (x ∷ xs)) words step ∙ got.2)

    alone_case : (f : Bool) (x : ℕ) (xs name : Text) → length words ≤ n → Stands gs rows p f → AllUtf8 words → kind_of_option name ≡ Some flag → x ∷ xs ≡ name
        → outcome c (walk_at rows p idle f false) (dashes (x ∷ xs)) ≡ by_rule c rows p idle f (dashes (x ∷ xs)) None (Some (taken (name, flag)))
        → run_fault c (walk_at rows p idle f false) (dashes (x ∷ xs) ∷ words) ≡ [] → Found (dashes (x ∷ xs) ∷ words) gs rows p f
    alone_case f x xs name le s u is spelt met clean =
        let step = met ∙ alone_outcome c rows p idle f (dashes (x ∷ xs)) name in
        let now = sym (fault_then c _ _ _ (dashes (x ∷ xs)) words step) ∙ clean in
        let both = first_passes _ _ now in
        let are = s.rows_are (first_passes _ _ both) in
        let none = none_given name gs (settled_rows c p rows) are (next_passes (due c rows p) _ both) in
        let got = ih words (gs ++ given name (codes "true") ∷ []) (used (taken (name, flag)) [] (settled_rows c p rows)) None f le (record {
          named = named_more gs f name (codes "true") s.named (fine name flag is).other;
          rows_are = λ later. rows_more gs (given name (codes "true")) (settled_rows c p rows) are none;
        }) u (next_passes _ _ now) in
        (got.0, subst (λ (t : Text). Reads gs (dashes t ∷ words) got.0) (sym spelt) (alone gs got.0 name words is none got.1), rows_then c _ _ _ (dashes (x ∷ xs)) words step ∙ got.2)

  module _ (n : ℕ) (ih : Back n) (gs : List Given) (rows : List Row) (p : Pending) where
    -- a word behind `--name` that is no value
    is_value : (f : Bool) (name value : Text) (words : List Text) → Looks value → IsUtf8 value → kind_of_option name ≡ Some valued → run_fault c (walk_at rows (Some (name, [])) (option name) f false) (value ∷ words) ≡ [] → is_dashed value ≡ false
    is_value f name value words (plain_look _ e) u is clean = e
    is_value f name _ words stop_look u is clean =
        absurd (some_kind kind.InvalidValue [] (sym (no_value_due rows name is) ∙ trailing_due rows (Some (name, [])) (option name) f words (sym (fault_then c _ _ _ _ words (stop_outcome c rows (Some (name, [])) (option name) f)) ∙ clean)))
    is_value f name _ words (long_look y ys) u is clean = absurd (some_kind kind.InvalidValue [] (sym (no_value_due rows name is) ∙ early_long rows (Some (name, [])) (option name) f y ys words clean))
    is_value f name _ words (short_look y rest e) u is clean = absurd (refused _ _ words kind.UnknownArgument (no_short_option c rows (Some (name, [])) k (option name) f y rest e u) clean)

    value_case : (value : Text) (words : List Text) (f : Bool) (x : ℕ) (xs name : Text) → length words ≤ n → Stands gs rows p f → AllUtf8 words → kind_of_option name ≡ Some valued → x ∷ xs ≡ name → is_dashed value ≡ false
        → outcome c (walk_at rows p idle f false) (dashes (x ∷ xs)) ≡ (due c rows p, walk_at (settled_rows c p rows) (Some (name, [])) (option name) f false)
        → due c rows p ≡ [] → run_fault c (walk_at (settled_rows c p rows) (Some (name, [])) (option name) f false) (value ∷ words) ≡ [] → Found (dashes (x ∷ xs) ∷ value ∷ words) gs rows p f
    value_case value words f x xs name le s u is spelt e step d rest =
        let next_step = value_outcome c (settled_rows c p rows) (Some (name, [])) f value name e (k.id name valued is) refl in
        let after = sym (fault_then c _ _ _ value words next_step) ∙ rest in
        let are = s.rows_are d in
        let none = none_given name gs (settled_rows c p rows) are (sym (value_due (settled_rows c p rows) name value is) ∙ early (settled_rows c p rows) (Some (name, value ∷ [])) f words u after) in
        let got = ih words (gs ++ given name value ∷ []) (settled_rows c p rows) (Some (name, value ∷ [])) f le (record {
          named = named_more gs f name value s.named (fine name valued is).other;
          rows_are = λ later. value_rows (settled_rows c p rows) name value is ∙ rows_more gs (given name value) (settled_rows c p rows) are none;
        }) u after in (
          got.0,
          subst (λ (t : Text). Reads gs (dashes t ∷ value ∷ words) got.0) (sym spelt) (apart gs got.0 name value words is e none got.1),
          rows_then c _ _ _ (dashes (x ∷ xs)) (value ∷ words) step ∙ rows_then c _ _ _ value words next_step ∙ got.2,
        )

  module _ (n : ℕ) (ih : Back n) (gs : List Given) (rows : List Row) (p : Pending) where
    apart_case : (words : List Text) (f : Bool) (x : ℕ) (xs name : Text) → length words ≤ n → Stands gs rows p f → AllUtf8 words → kind_of_option name ≡ Some valued → x ∷ xs ≡ name
        → outcome c (walk_at rows p idle f false) (dashes (x ∷ xs)) ≡ by_rule c rows p idle f (dashes (x ∷ xs)) None (Some (taken (name, valued)))
        → run_fault c (walk_at rows p idle f false) (dashes (x ∷ xs) ∷ words) ≡ [] → Found (dashes (x ∷ xs) ∷ words) gs rows p f
    apart_case [] f x xs name le s u is spelt met clean =
        let step = met ∙ apart_outcome c rows p idle f (dashes (x ∷ xs)) name in
        let now = next_passes (due c rows p) _ (sym (fault_then c _ _ _ (dashes (x ∷ xs)) [] step) ∙ clean) in
        absurd (some_kind kind.InvalidValue [] (sym (no_value_due (settled_rows c p rows) name is) ∙ (sym (fault_end c (walk_at (settled_rows c p rows) (Some (name, [])) (option name) f false)) ∙ now)))
    apart_case (value ∷ words) f x xs name le s u is spelt met clean =
        let step = met ∙ apart_outcome c rows p idle f (dashes (x ∷ xs)) name in
        let now = sym (fault_then c _ _ _ (dashes (x ∷ xs)) (value ∷ words) step) ∙ clean in
        let rest = next_passes (due c rows p) _ now in
        value_case n ih gs rows p value words f x xs name (omega (arith, le)) s u.1 is spelt (is_value n ih gs (settled_rows c p rows) p f name value words (looks value) u.0 is rest) step (first_passes _ _ now) rest

    stop_case : (words : List Text) (f : Bool) → Stands gs rows p f → run_fault c (walk_at rows p idle f false) (dashes [] ∷ words) ≡ [] → Found (dashes [] ∷ words) gs rows p f
    stop_case words f s clean = by words f s (sym (fault_then c _ _ _ (dashes []) words (stop_outcome c rows p idle f)) ∙ clean)
      where
        by : (ws : List Text) (g : Bool) → Stands gs rows p g → run_fault c (walk_at rows p idle g true) ws ≡ [] → Found (dashes [] ∷ ws) gs rows p g
        by [] g t now = (gs, stop gs, rows_then c _ _ _ (dashes []) [] (stop_outcome c rows p idle g) ∙ t.rows_are (sym (fault_end c (walk_at rows p idle g true)) ∙ now))
        by (word ∷ ws) true t now = absurd (refused _ word ws kind.UnknownArgument (no_trailing_second c rows p k idle word) now)
        by (word ∷ []) false t now =
            let step = trailing_file c rows p k idle word in
            let d = first_passes _ _ (sym (fault_then c _ _ _ word [] step) ∙ now) in
            let none : is_given file_name gs ≡ false = sym t.named in (
              gs ++ given file_name word ∷ [],
              stop_file gs word none,
              rows_then c _ _ _ (dashes []) (word ∷ []) (stop_outcome c rows p idle false) ∙ rows_then c _ _ _ word [] step ∙ file_rows (settled_rows c p rows) word
                  ∙ rows_more gs (given file_name word) (settled_rows c p rows) (t.rows_are d) none,
            )
        by (word ∷ other ∷ ws) false t now =
            let step = trailing_file c rows p k idle word in
            absurd (refused _ other ws kind.UnknownArgument (no_trailing_second c (settled_rows c p rows) (Some (file_name, word ∷ [])) k idle other) (next_passes (due c rows p) _ (sym (fault_then c _ _ _ word (other ∷ ws) step) ∙ now)))

  long_case : (n : ℕ) → Back n → (words : List Text) (gs : List Given) (rows : List Row) (p : Pending) (f : Bool) (x : ℕ) (xs : Text) → length words ≤ n → Stands gs rows p f → AllUtf8 words
      → run_fault c (walk_at rows p idle f false) (dashes (x ∷ xs) ∷ words) ≡ [] → Found (dashes (x ∷ xs) ∷ words) gs rows p f
  long_case n ih words gs rows p f x xs le s u clean = go (kind_of_option (name_and_value (x ∷ xs)).0) refl (name_and_value (x ∷ xs)).1 (joins (x ∷ xs)) (long_by rows p idle f x xs)
    where
      go : (d : Option Kind) → kind_of_option (name_and_value (x ∷ xs)).0 ≡ d → (v : Option Text) → Joins (x ∷ xs) (name_and_value (x ∷ xs)).0 v
          → outcome c (walk_at rows p idle f false) (dashes (x ∷ xs)) ≡ by_rule c rows p idle f (dashes (x ∷ xs)) v (option_map (λ (e : Kind). taken ((name_and_value (x ∷ xs)).0, e)) d)
          → Found (dashes (x ∷ xs) ∷ words) gs rows p f
      go None is v j e = absurd (refused _ _ words kind.UnknownArgument (ap (λ o. o.0) e) clean)
      go (Some valued) is None j e = apart_case n ih gs rows p words f x xs (name_and_value (x ∷ xs)).0 le s u is j e clean
      go (Some valued) is (Some v) j e = joined_case n ih words gs rows p f x xs (name_and_value (x ∷ xs)).0 v le s u is j e clean
      go (Some flag) is None j e = alone_case n ih words gs rows p f x xs (name_and_value (x ∷ xs)).0 le s u is j e clean
      go (Some flag) is (Some v) j e = absurd (refused _ _ words kind.TooManyValues (ap (λ o. o.0) e) clean)

  back_step : (n : ℕ) → Back n → (word : Text) (words : List Text) (gs : List Given) (rows : List Row) (p : Pending) (f : Bool) → length words ≤ n → Stands gs rows p f → IsUtf8 word → AllUtf8 words
      → Looks word → run_fault c (walk_at rows p idle f false) (word ∷ words) ≡ [] → Found (word ∷ words) gs rows p f
  back_step n ih word words gs rows p f le s u us (plain_look _ e) clean = file_case n ih words gs rows p f word le s us e clean
  back_step n ih _ words gs rows p f le s u us stop_look clean = stop_case n ih gs rows p words f s clean
  back_step n ih _ words gs rows p f le s u us (long_look x xs) clean = long_case n ih words gs rows p f x xs le s us clean
  back_step n ih _ words gs rows p f le s u us (short_look y rest e) clean = absurd (refused _ _ words kind.UnknownArgument (no_short_option c rows p k idle f y rest e u) clean)

  back : (n : ℕ) → Back n
  back n [] gs rows p f le s u clean = (gs, end gs, s.rows_are (early rows p f [] u clean))
  back zero (word ∷ words) gs rows p f le s u clean = absurd (omega (arith, le))
  back (suc n) (word ∷ words) gs rows p f le s u clean = back_step n (back n) word words gs rows p f (omega (arith, le)) s u.0 u.1 (looks word) clean

  pub backward : (words : List Text) → AllUtf8 words → run_fault c (walk_at [] None idle false false) words ≡ [] → Found words [] [] None false
  backward words u clean = back (length words) words [] [] None false (omega arith) (record { named = refl; rows_are = λ d. refl }) u clean

  -- ---- and clap takes each command's words

  abbrev Takes : List Text → List Given → List Row → Pending → Bool → Type 0
  Takes words all rows p f = (run_fault c (walk_at rows p idle f false) words ≡ []) × (run_rows c (walk_at rows p idle f false) words ≡ rows_for all)

  takes_word : (w v : Walk) (x : Kinds) (word : Text) (words : List Text) (all : List Given) → outcome c w word ≡ (x, v) → x ≡ []
      → (run_fault c v words ≡ []) × (run_rows c v words ≡ rows_for all) → (run_fault c w (word ∷ words) ≡ []) × (run_rows c w (word ∷ words) ≡ rows_for all)
  takes_word w v x word words all step none rest = (fault_then c w v x word words step ∙ both_pass x _ none rest.0, rows_then c w v x word words step ∙ rest.1)

  free : (name : Text) (gs : List Given) (rows : List Row) → rows ≡ rows_for gs → is_given name gs ≡ false → conflict name rows ≡ []
  free name gs rows are none = no_conflict name rows (ap (has_row name) are ∙ is_given_row name gs ∙ none)

  long_is : (rows : List Row) (p : Pending) (f : Bool) (word name : Text) (v : Option Text) (d : Kind) → bytes_eq word (dashes []) ≡ false → long_of word ≡ Some (name, v) → kind_of_option name ≡ Some d
      → outcome c (walk_at rows p idle f false) word ≡ by_rule c rows p idle f word v (Some (taken (name, d)))
  long_is rows p f word name v d goes_on cut is = long_outcome c rows p idle f word name v (Some (taken (name, d))) goes_on cut (k.long name ∙ ap (option_map (λ (e : Kind). taken (name, e))) is)

  onward : (gs all : List Given) (words : List Text) → Reads gs words all → (rows : List Row) (p : Pending) (f : Bool) → f ≡ is_given file_name gs → due c rows p ≡ [] → settled_rows c p rows ≡ rows_for gs → Takes words all rows p f
  onward gs _ _ (end _) rows p f named none are = (fault_end c (walk_at rows p idle f false) ∙ none, are)
  onward gs all _ (apart _ _ name value words is e once r) rows p f named none are =
      let good = fine name valued is in
      let step = long_is rows p f (dashes name) name None valued good.apart_goes_on good.apart is ∙ apart_outcome c rows p idle f (dashes name) name in
      let next_step = value_outcome c (settled_rows c p rows) (Some (name, [])) f value name e (k.id name valued is) refl in
      let later = onward (gs ++ given name value ∷ []) all words r (settled_rows c p rows) (Some (name, value ∷ [])) f (named_more gs f name value named good.other)
      (value_due (settled_rows c p rows) name value is ∙ free name gs (settled_rows c p rows) are once)
      (value_rows (settled_rows c p rows) name value is ∙ rows_more gs (given name value) (settled_rows c p rows) are once) in
      takes_word _ _ _ (dashes name) (value ∷ words) all step none (takes_word _ _ _ value words all next_step refl later)
  onward gs all _ (joined _ _ name value words is once r) rows p f named none are =
      let good = fine name valued is in
      let step = long_is rows p f (dashes (name ++ 61 ∷ value)) name (Some value) valued (good.joined_goes_on value) (good.joined value) is ∙ joined_outcome c rows p idle f (dashes (name ++ 61 ∷ value)) name value in
      let later = onward (gs ++ given name value ∷ []) all words r (used (taken (name, valued)) (value ∷ []) (settled_rows c p rows)) None f (named_more gs f name value named good.other)
      refl (rows_more gs (given name value) (settled_rows c p rows) are once) in
      takes_word _ _ _ (dashes (name ++ 61 ∷ value)) words all step (both_pass _ _ none (free name gs (settled_rows c p rows) are once)) later
  onward gs all _ (alone _ _ name words is once r) rows p f named none are =
      let good = fine name flag is in
      let step = long_is rows p f (dashes name) name None flag good.apart_goes_on good.apart is ∙ alone_outcome c rows p idle f (dashes name) name in
      let later = onward (gs ++ given name (codes "true") ∷ []) all words r (used (taken (name, flag)) [] (settled_rows c p rows)) None f (named_more gs f name (codes "true") named good.other)
      refl (rows_more gs (given name (codes "true")) (settled_rows c p rows) are once) in
      takes_word _ _ _ (dashes name) words all step (both_pass _ _ none (free name gs (settled_rows c p rows) are once)) later
  onward gs all _ (file _ _ word words e once r) rows p true named none are = absurd (true≢false (named ∙ once))
  onward gs all _ (file _ _ word words e once r) rows p false named none are =
      let later = onward (gs ++ given file_name word ∷ []) all words r (settled_rows c p rows) (Some (file_name, word ∷ [])) true (named_now gs word)
      (file_due (settled_rows c p rows) word ∙ free file_name gs (settled_rows c p rows) are once)
      (file_rows (settled_rows c p rows) word ∙ rows_more gs (given file_name word) (settled_rows c p rows) are once) in
      takes_word _ _ _ word words all (file_outcome c rows p k word e) none later
  onward gs _ _ (stop _) rows p f named none are = takes_word _ _ _ (dashes []) [] gs (stop_outcome c rows p idle f) refl (fault_end c (walk_at rows p idle f true) ∙ none, are)
  onward gs _ _ (stop_file _ word once) rows p true named none are = absurd (true≢false (named ∙ once))
  onward gs _ _ (stop_file _ word once) rows p false named none are =
      let all = gs ++ given file_name word ∷ [] in
      let now = walk_at (settled_rows c p rows) (Some (file_name, word ∷ [])) idle true true in
      takes_word _ _ _ (dashes []) (word ∷ []) all (stop_outcome c rows p idle false) refl
      (takes_word _ now _ word [] all (trailing_file c rows p k idle word) none (
        fault_end c now ∙ file_due (settled_rows c p rows) word ∙ free file_name gs (settled_rows c p rows) are once,
        file_rows (settled_rows c p rows) word ∙ rows_more gs (given file_name word) (settled_rows c p rows) are once,
      ))

  pub forward : (words : List Text) (all : List Given) → Reads [] words all → Takes words all [] None false
  forward words all r = onward [] all words r [] None false refl refl refl
