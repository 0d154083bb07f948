-- What one word does to clap's walk.
use Rattle.std.proofs.Common.{◌≡◌, ◌∙◌, ◌==◌, ◌||◌, ◌&&◌, ℕ, Bool, cond, true, false, refl, sym, ap, ap₂, subst, arith, List, [], ◌∷◌, ◌++◌, fold, Option, Some, None, bytes_eq, IsUtf8, encode_utf8, chars, slice_get, length, nat_lt, drop}
use Rattle.std.specs.Option.{option_map_or}
use Rattle.std.proofs.lemmas.Bool.Decides.{nat_tests}
use Rattle.std.proofs.lemmas.Slice.Eq.{bytes_eq-Decides}
use Rattle.std.proofs.lemmas.Str.{encodes-chars, IsUtf8-past_char}
use Rattle.std.proofs.Math.Utf8.{encode, encodes}
use Rattle.std.specs.Prelude.{option_and_then}
use Rattle.clap.specs.Lexer.{long_of, long_of_rest, short_of, short_of_rest, strip_byte}
use Rattle.clap.specs.Kinds.{Kinds, or_else}
use Rattle.clap.specs.Faults.{flag_word_fault, long_fault, settle_fault, step_fault, turn_fault, walk_fault, bundle_fault, flags_fault, bundle_step_fault, short_fault, repeat_fault, positional_fault}
use Rattle.clap.specs.Walk.{Held, Row, Rule, Step, Text, Waiting, Walk, idle, option, positional, after_flag, after_step, arg_by_id, arg_by_index, arg_by_long, long_met, long_or_other, settled, settled_rows, short_or_plain, started, pending_count, next, to_positional, trailing, used, walked, pushed, is_pending, option_word}
use Rattle.clap.specs.declared.error.kind.ErrorKind.TheVariants as kind
use Rattle.options.specs.Table.{valued, flag}
use Rattle.options.specs.Words.{is_dashed, dashes, file_name}
use Rattle.options.proofs.Built.{taken, taken_file, shape_over}
use Rattle.options.proofs.Known.{Knows}

nil≢cons : (y : ℕ) (rest : List ℕ) → [] ≡ y ∷ rest → ⊥
nil≢cons y rest e = cc

-- ---- kinds

pub nothing_behind : (a : Kinds) → or_else a [] ≡ a
nothing_behind [] = refl
nothing_behind (k ∷ ks) = refl

pub in_turn : (a b d : Kinds) → or_else (or_else a b) d ≡ or_else a (or_else b d)
in_turn [] b d = refl
in_turn (k ∷ ks) b d = refl

pub first_passes : (a b : Kinds) → or_else a b ≡ [] → a ≡ []
first_passes [] b e = refl
first_passes (k ∷ ks) b e = e

pub next_passes : (a b : Kinds) → or_else a b ≡ [] → b ≡ []
next_passes [] b e = e
next_passes (k ∷ ks) b e = cc

pub both_pass : (a b : Kinds) → a ≡ [] → b ≡ [] → or_else a b ≡ []
both_pass a b e f = ap₂ or_else e f

-- ---- the walk

abbrev pub Pending : Type 0
Pending = Option (Text × List Text)

abbrev pub held : List Row → Pending → Held
held rows p = record { rows = rows; pending = p; skip = 0 }

-- FILE is given or not
abbrev pub place : Bool → ℕ
place f = cond f 2 1

abbrev pub walk_at : List Row → Pending → Waiting → Bool → Bool → Walk
walk_at rows p waiting f is_trailing = record { held = held rows p; waiting = waiting; position = place f; is_trailing = is_trailing; stopped = None }

-- the kinds of what is pending, and the rows with it
abbrev pub due : List Rule → List Row → Pending → Kinds
due c rows p = settle_fault c false (held rows p)

abbrev pub conflict : Text → List Row → Kinds
conflict name rows = or_else (repeat_fault false name rows) []

abbrev pub result : Kinds → Walk → Kinds × Walk
result k w = (k, w)

abbrev pub outcome : List Rule → Walk → Text → Kinds × Walk
outcome c w word = (turn_fault (shape_over c) [] w word, walked c [] w word)

abbrev pub run_fault : List Rule → Walk → List Text → Kinds
run_fault c w words = or_else (walk_fault (shape_over c) [] w words) (settle_fault c false (fold (walked c []) w words).held)

abbrev pub run_rows : List Rule → Walk → List Text → List Row
run_rows c w words = (settled c (fold (walked c []) w words).held).rows

pub fault_more : (c : List Rule) (w : Walk) (word : Text) (words : List Text) → run_fault c w (word ∷ words) ≡ or_else (outcome c w word).0 (run_fault c (outcome c w word).1 words)
unfolding walk_fault
fault_more c w word words = in_turn (turn_fault (shape_over c) [] w word) (walk_fault (shape_over c) [] (walked c [] w word) words) (settle_fault c false (fold (walked c []) (walked c [] w word) words).held)

pub fault_then : (c : List Rule) (w v : Walk) (f : Kinds) (word : Text) (words : List Text) → outcome c w word ≡ (f, v) → run_fault c w (word ∷ words) ≡ or_else f (run_fault c v words)
fault_then c w v f word words e = fault_more c w word words ∙ ap (λ (o : Kinds × Walk). or_else o.0 (run_fault c o.1 words)) e

pub rows_then : (c : List Rule) (w v : Walk) (f : Kinds) (word : Text) (words : List Text) → outcome c w word ≡ (f, v) → run_rows c w (word ∷ words) ≡ run_rows c v words
rows_then c w v f word words e = ap (λ (o : Kinds × Walk). run_rows c o.1 words) e

-- ---- the shapes of words

pub data Looks : List ℕ → Type 0 where
  plain : (word : List ℕ) → is_dashed word ≡ false → Looks word
  stop : Looks (dashes [])
  long : (x : ℕ) (xs : List ℕ) → Looks (dashes (x ∷ xs))
  short : (y : ℕ) (rest : List ℕ) → (y == 45) ≡ false → Looks (45 ∷ y ∷ rest)

pub looks : (word : List ℕ) → Looks word
looks [] = plain [] refl
looks (x ∷ []) = plain (x ∷ []) refl
looks (x ∷ y ∷ rest) = go (x == 45) refl (y == 45) refl
  where
    long_or_stop : (r : List ℕ) → Looks (dashes r)
    long_or_stop [] = stop
    long_or_stop (z ∷ zs) = long z zs

    go : (b : Bool) → (x == 45) ≡ b → (d : Bool) → (y == 45) ≡ d → Looks (x ∷ y ∷ rest)
    go false e d f = plain (x ∷ y ∷ rest) e
    go true e false f = let is : x ≡ 45 = grind (arith, nat_tests) in subst (λ n. Looks (n ∷ y ∷ rest)) (sym is) (short y rest f)
    go true e true f =
        let is : x ≡ 45 = grind (arith, nat_tests) in
        let also : y ≡ 45 = grind (arith, nat_tests) in
        subst (λ n. Looks (n ∷ y ∷ rest)) (sym is) (subst (λ n. Looks (45 ∷ n ∷ rest)) (sym also) (long_or_stop rest))

-- a plain word is no flag
pub record IsPlain (word : List ℕ) : Type 0 where
  pub goes_on : bytes_eq word (dashes []) ≡ false
  pub no_long : long_of word ≡ None
  pub no_short : short_of word ≡ None

pub plain_is : (word : List ℕ) → is_dashed word ≡ false → IsPlain word
plain_is [] e = record { goes_on = refl; no_long = refl; no_short = refl }
plain_is (x ∷ []) e = go (x == 45) refl
  where
    go : (b : Bool) → (x == 45) ≡ b → IsPlain (x ∷ [])
    go true t = let is : x ≡ 45 = grind (arith, nat_tests) in subst (λ n. IsPlain (n ∷ [])) (sym is) (record { goes_on = refl; no_long = refl; no_short = refl })
    go false t = record {
      goes_on = ap (λ (b : Bool). b && bytes_eq [] (45 ∷ [])) t;
      no_long = ap (λ (b : Bool). option_and_then long_of_rest (option_and_then (strip_byte 45) (cond b (Some []) None))) t;
      no_short = ap (λ (b : Bool). option_and_then short_of_rest (cond b (Some []) None)) t;
    }
plain_is (x ∷ y ∷ rest) e = record {
  goes_on = ap (λ (b : Bool). b && bytes_eq (y ∷ rest) (45 ∷ [])) e;
  no_long = ap (λ (b : Bool). option_and_then long_of_rest (option_and_then (strip_byte 45) (cond b (Some (y ∷ rest)) None))) e;
  no_short = ap (λ (b : Bool). option_and_then short_of_rest (cond b (Some (y ∷ rest)) None)) e;
}

-- ---- one word before `--`

module _ (c : List Rule) (rows : List Row) (p : Pending) (waits : Waiting) (f : Bool) (word : Text) where
  abbrev pub by_met : Kinds → Held × Step → Kinds × Walk
  by_met k met = (or_else k (step_fault (shape_over c) (place f) met.0 met.1), after_step c word (walk_at rows p waits f false) met.0 met.1)

  abbrev pub by_word : Bool → Option (Text × Option Text) → Kinds × Walk
  by_word b l = by_met (cond b [] (flag_word_fault c false l word (held rows p))) (cond b (held rows p, trailing (place f)) (long_or_other c waits word l (held rows p)))

  abbrev pub by_rule : Option Text → Option Rule → Kinds × Walk
  by_rule v o = by_met (long_fault c false o v (held rows p)) (after_flag c waits word (long_met c o v (held rows p)).0 (long_met c o v (held rows p)).1)

module _ (c : List Rule) (rows : List Row) (p : Pending) where
  pub outcome_is : (waits : Waiting) (f : Bool) (word : Text) → outcome c (walk_at rows p waits f false) word ≡ by_word c rows p waits f word (bytes_eq word (dashes [])) (long_of word)
  unfolding walked
  outcome_is idle f word = refl
  outcome_is (option id) f word = refl
  outcome_is positional f word = refl

  pub long_outcome : (waits : Waiting) (f : Bool) (word name : Text) (v : Option Text) (o : Option Rule) → bytes_eq word (dashes []) ≡ false → long_of word ≡ Some (name, v) → arg_by_long c name ≡ o
      → outcome c (walk_at rows p waits f false) word ≡ by_rule c rows p waits f word v o
  long_outcome waits f word name v o goes_on is found =
      outcome_is waits f word ∙ ap₂ (λ b l. by_word c rows p waits f word b l) goes_on is ∙ ap (λ r. by_rule c rows p waits f word v r) found

  -- `--name=value`
  pub joined_outcome : (waits : Waiting) (f : Bool) (word name v : Text)
      → by_rule c rows p waits f word (Some v) (Some (taken (name, valued))) ≡ (or_else (due c rows p) (conflict name (settled_rows c p rows)), walk_at (used (taken (name, valued)) (v ∷ []) (settled_rows c p rows)) None idle f false)
  joined_outcome waits f word name v = ap (λ x. result x (walk_at (used (taken (name, valued)) (v ∷ []) (settled_rows c p rows)) None idle f false)) (nothing_behind _)

  -- `--name`, which waits for its value
  pub apart_outcome : (waits : Waiting) (f : Bool) (word name : Text)
      → by_rule c rows p waits f word None (Some (taken (name, valued))) ≡ (due c rows p, walk_at (settled_rows c p rows) (Some (name, [])) (option name) f false)
  apart_outcome waits f word name = ap (λ x. result x (walk_at (settled_rows c p rows) (Some (name, [])) (option name) f false)) (nothing_behind _)

  -- `--name`, alone
  pub alone_outcome : (waits : Waiting) (f : Bool) (word name : Text)
      → by_rule c rows p waits f word None (Some (taken (name, flag))) ≡ (or_else (due c rows p) (conflict name (settled_rows c p rows)), walk_at (used (taken (name, flag)) [] (settled_rows c p rows)) None idle f false)
  alone_outcome waits f word name = ap (λ x. result x (walk_at (used (taken (name, flag)) [] (settled_rows c p rows)) None idle f false)) (nothing_behind _)

  -- `--`
  pub stop_outcome : (waits : Waiting) (f : Bool) → outcome c (walk_at rows p waits f false) (dashes []) ≡ ([], walk_at rows p waits f true)
  stop_outcome waits f = outcome_is waits f (dashes [])

  abbrev pub by_plain : Waiting → Bool → Text → Option Text → Kinds × Walk
  by_plain waits f word flags = by_met c rows p waits f word (option_map_or (λ fs. bundle_fault c false fs (held rows p)) flags []) (short_or_plain c waits word flags (held rows p))

  abbrev pub placed : Waiting → Bool → Bool → Text → Option Rule → Kinds × Walk
  placed waits f t word o = (option_map_or (λ a. positional_fault c false a (held rows p)) o (kind.UnknownArgument ∷ []), to_positional c o word (walk_at rows p waits f t) (held rows p))

  plain_outcome : (waits : Waiting) (f : Bool) (word : Text) → is_dashed word ≡ false → outcome c (walk_at rows p waits f false) word ≡ by_plain waits f word None
  plain_outcome waits f word is_plain =
      let g = plain_is word is_plain in
      outcome_is waits f word ∙ ap₂ (λ b l. by_word c rows p waits f word b l) g.goes_on g.no_long ∙ ap (by_plain waits f word) g.no_short

  -- a value behind `--name`
  pub value_outcome : (f : Bool) (word name : Text) → is_dashed word ≡ false → arg_by_id c name ≡ Some (taken (name, valued))
      → p ≡ Some (name, []) → outcome c (walk_at rows p (option name) f false) word ≡ ([], walk_at rows (Some (name, word ∷ [])) idle f false)
  value_outcome f word name is_plain found waiting =
      let same : bytes_eq name name ≡ true = (bytes_eq-Decides name name).1 refl in
      plain_outcome (option name) f word is_plain
      ∙ ap (λ (o : Option Rule). by_met c rows p (option name) f word [] ((option_word o name word (held rows p)).0, next (option_word o name word (held rows p)).1)) found
      ∙ ap (λ (q : Pending). result [] (record { held = held rows (Some ((started name q).0, (started name q).1 ++ word ∷ [])); waiting = cond (nat_lt (pending_count (taken (name, valued)) (Some ((started name q).0, (started name q).1 ++ word ∷ []))) 1) (option name) idle; position = place f; is_trailing = false; stopped = None })) waiting
      ∙ ap (λ (b : Bool). result [] (record { held = held rows (Some (name, word ∷ [])); waiting = cond (nat_lt (cond b 1 0) 1) (option name) idle; position = place f; is_trailing = false; stopped = None })) same

  and_false : (b : Bool) → (b && false) ≡ false
  and_false true = refl
  and_false false = refl

  or_false : (b : Bool) → (b || false) ≡ b
  or_false true = refl
  or_false false = refl

  -- FILE
  file_placed : (waits : Waiting) (t : Bool) (word : Text) → placed waits false t word (Some taken_file) ≡ (due c rows p, walk_at (settled_rows c p rows) (Some (file_name, word ∷ [])) idle true t)
  file_placed waits t word =
      ap₂ (λ (b u : Bool). result (cond b [] (due c rows p)) (record { held = pushed file_name word (cond b (held rows p) (settled c (held rows p))); waiting = idle; position = 2; is_trailing = u; stopped = None })) (and_false (is_pending taken_file p)) (or_false t)

  pub file_outcome : Knows c → (word : Text) → is_dashed word ≡ false → outcome c (walk_at rows p idle false false) word ≡ (due c rows p, walk_at (settled_rows c p rows) (Some (file_name, word ∷ [])) idle true false)
  file_outcome k word is_plain = plain_outcome idle false word is_plain ∙ ap (placed idle false false word) k.first ∙ file_placed idle false word

  pub no_second : Knows c → (word : Text) → is_dashed word ≡ false → (outcome c (walk_at rows p idle true false) word).0 ≡ kind.UnknownArgument ∷ []
  no_second k word is_plain = ap (λ (o : Kinds × Walk). o.0) (plain_outcome idle true word is_plain ∙ ap (placed idle true false word) k.second)

  trailing_is : (waits : Waiting) (f : Bool) (word : Text) → outcome c (walk_at rows p waits f true) word ≡ placed waits f true word (arg_by_index c (place f))
  unfolding walked
  trailing_is waits f word = refl

  pub trailing_file : Knows c → (waits : Waiting) (word : Text) → outcome c (walk_at rows p waits false true) word ≡ (due c rows p, walk_at (settled_rows c p rows) (Some (file_name, word ∷ [])) idle true true)
  trailing_file k waits word = trailing_is waits false word ∙ ap (placed waits false true word) k.first ∙ file_placed waits true word

  pub no_trailing_second : Knows c → (waits : Waiting) (word : Text) → (outcome c (walk_at rows p waits true true) word).0 ≡ kind.UnknownArgument ∷ []
  no_trailing_second k waits word = ap (λ (o : Kinds × Walk). o.0) (trailing_is waits true word ∙ ap (placed waits true true word) k.second)

  -- a word with one dash
  first_char : (cs : List ℕ) (y : ℕ) (rest : Text) → encodes cs ≡ y ∷ rest → (x : ℕ) × (slice_get cs 0 ≡ Some x)
  first_char [] y rest e = absurd (nil≢cons y rest e)
  first_char (x ∷ xs) y rest e = (x, refl)

  one_dash : (rest : Text) → 45 ∷ rest ≡ encode 45 ++ rest
  unfolding encode
  one_dash rest = refl

  bundle_refused : Knows c → (y : ℕ) (rest : Text) → IsUtf8 (y ∷ rest) → bundle_fault c false (y ∷ rest) (held rows p) ≡ kind.UnknownArgument ∷ []
  unfolding flags_fault
  bundle_refused k y rest u =
      let char = first_char (chars (y ∷ rest)) y rest (encodes-chars (y ∷ rest) u) in
      ap (λ o. bundle_step_fault c false o (y ∷ rest) 0 (held rows p) (flags_fault c false (length rest))) char.1
      ∙ ap (λ o. short_fault c false o (drop (length (encode_utf8 char.0)) (y ∷ rest)) (held rows p) (flags_fault c false (length rest) (drop (length (encode_utf8 char.0)) (y ∷ rest)) 0)) (k.short char.0)

  pub no_short_option : Knows c → (waits : Waiting) (f : Bool) (y : ℕ) (rest : Text) → (y == 45) ≡ false → IsUtf8 (45 ∷ y ∷ rest)
      → (outcome c (walk_at rows p waits f false) (45 ∷ y ∷ rest)).0 ≡ kind.UnknownArgument ∷ []
  no_short_option k waits f y rest other u =
      let word = 45 ∷ y ∷ rest in
      let goes_on : bytes_eq word (dashes []) ≡ false = ap (λ (b : Bool). b && bytes_eq rest []) other in
      let no_long : long_of word ≡ None = ap (λ (b : Bool). option_and_then long_of_rest (cond b (Some rest) None)) other in
      let is_short : short_of word ≡ Some (y ∷ rest) = ap (λ (b : Bool). cond b None (Some (y ∷ rest))) other in
      ap (λ (o : Kinds × Walk). o.0) (outcome_is waits f word ∙ ap₂ (λ b l. by_word c rows p waits f word b l) goes_on no_long ∙ ap (by_plain waits f word) is_short)
      ∙ ap (λ x. or_else x (step_fault (shape_over c) (place f) (short_or_plain c waits word (Some (y ∷ rest)) (held rows p)).0 (short_or_plain c waits word (Some (y ∷ rest)) (held rows p)).1)) (bundle_refused k y rest (IsUtf8-past_char word (y ∷ rest) 45 u (one_dash (y ∷ rest))))
