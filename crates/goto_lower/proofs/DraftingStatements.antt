-- What first values, objects that live and die, and statements add to a draft.
use Rattle.std.proofs.Common.{◌≡◌, ℕ, suc, ◌+◌, ◌-◌, ◌*◌, ◌<◌, ◌≤◌, Bool, [], ◌∷◌, ◌++◌, length, ap, ◌∙◌, arith, append-nil}
use Rattle.std.specs.Prelude.{replicate}
use Rattle.std.proofs.lemmas.List.{length-replicate, replicate-append-replicate}
use Rattle.c_types.specs.declared.integers.IntegerType.TheVariants.{UnsignedLong}
use Rattle.core_tree.specs.Trees.{Items}
use Rattle.c_temporaries.specs.Accesses.{home_in}
use Rattle.lowered_code.specs.Lowering.{drawn_registers, home_registers, first_registers, parameters_registers, word_code, words_code, first_code, home_code, made_code, entry_code, parameters_code}
use Rattle.lowered_code.specs.Registers.{first_types, entry_types, death_types}
use Rattle.code_draft.specs.Drafts.{Listed, next, added, deaths_of, deaths_to}
use Rattle.goto_lower.specs.Statements.{after_words, after_entry, home_types, after_parameters, living_one, living, living_parameters, alive_count, parameter_count}
use Rattle.lowered_code.proofs.RegisterCounts.{first_length}
use Rattle.code_draft.proofs.Drafting.{next_added, adds_more}
use Rattle.goto_lower.proofs.Living.{alive_length, parameters_length}

pub nothing_added : (d : Listed) → added d [] [] ≡ d
nothing_added d = λ i. record d { instructions = append-nil d.instructions i; registers = append-nil d.registers i }

-- ---- first values

-- one word more
pub word_adds : (d new : Listed) (k line v offset : ℕ) → new ≡ added d (word_code d.frame line v offset (next d)) (UnsignedLong ∷ [])
    → after_words new k line v (offset + 8) ≡ after_words d (suc k) line v offset
word_adds d new k line v offset same =
    let at : next new ≡ next d + 1 = ap next same ∙ next_added d (word_code d.frame line v offset (next d)) (UnsignedLong ∷ []) in
    adds_more d new (after_words new k line v (offset + 8)) (word_code d.frame line v offset (next d)) (words_code d.frame k line v (offset + 8) (next d + 1)) (UnsignedLong ∷ []) (replicate k UnsignedLong) same
    (λ i. added new (words_code (same i).frame k line v (offset + 8) (at i)) (replicate k UnsignedLong))

-- the words that are left, behind one
pub words_left : (d new : Listed) (all word line v : ℕ) → word < all
    → ((k : ℕ) → after_words new k line v (8 * word + 8) ≡ after_words d (suc k) line v (8 * word))
    → after_words new (all - (word + 1)) line v (8 * (word + 1)) ≡ after_words d (all - word) line v (8 * word)
words_left d new all word line v lt one =
    let at : 8 * (word + 1) ≡ 8 * word + 8 = omega arith in
    let count : suc (all - (word + 1)) ≡ all - word = omega (arith, lt) in
    (λ i. after_words new (all - (word + 1)) line v (at i)) ∙ one (all - (word + 1)) ∙ (λ i. after_words d (count i) line v (8 * word))

pub no_words : (d : Listed) (all word line v : ℕ) → all ≤ word → after_words d (all - word) line v (8 * word) ≡ d
no_words d all word line v past =
    let none : all - word ≡ 0 = omega (arith, past) in
    (λ i. after_words d (none i) line v (8 * word)) ∙ nothing_added d

-- a variable's first value, and its object behind it
pub made_adds : (d d1 new : Listed) (line v : ℕ) (drawn : Bool) → d1 ≡ added d (first_code d.frame line v drawn (next d)) (replicate (drawn_registers d.frame.variables v drawn) UnsignedLong)
    → new ≡ added d1 (home_code d1.frame line v (home_in d1.frame.variables v) (next d1)) (home_types d1.frame.variables v)
    → new ≡ added d (made_code d.frame line v drawn (next d)) (first_types d.frame.variables v drawn)
made_adds d d1 new line v drawn first second =
    let f = d.frame in
    let count = drawn_registers f.variables v drawn in
    let home = home_in f.variables v in
    let ts = replicate count UnsignedLong in
    let at : next d1 ≡ next d + count = ap next first ∙ next_added d (first_code f line v drawn (next d)) ts ∙ ap (λ n. next d + n) (length-replicate count UnsignedLong) in
    adds_more d d1 new (first_code f line v drawn (next d)) (home_code f line v home (next d + count)) ts (home_types f.variables v) first
    (second ∙ (λ i. added d1 (home_code (first i).frame line v (home_in (first i).frame.variables v) (at i)) (home_types (first i).frame.variables v)))
    ∙ ap (λ us. added d (made_code f line v drawn (next d)) us) (replicate-append-replicate count (home_registers f.variables home) UnsignedLong)

-- those of the other variables behind one
pub made_more : (d new : Listed) (line v : ℕ) (drawn : Bool) (rest : Items)
    → new ≡ added d (made_code d.frame line v drawn (next d)) (first_types d.frame.variables v drawn)
    → after_entry new rest ≡ added d (made_code d.frame line v drawn (next d) ++ entry_code d.frame rest (next d + first_registers d.frame.variables v drawn)) (first_types d.frame.variables v drawn ++ entry_types d.frame.variables rest)
made_more d new line v drawn rest same =
    let f = d.frame in
    let at : next new ≡ next d + first_registers f.variables v drawn = ap next same ∙ next_added d (made_code f line v drawn (next d)) (first_types f.variables v drawn) ∙ ap (λ n. next d + n) (first_length f.variables v drawn) in
    adds_more d new (after_entry new rest) (made_code f line v drawn (next d)) (entry_code f rest (next d + first_registers f.variables v drawn)) (first_types f.variables v drawn) (entry_types f.variables rest) same
    (λ i. added new (entry_code (same i).frame rest (at i)) (entry_types (same i).frame.variables rest))

-- ---- the objects of parameters

-- one more
parameter_adds : (d new : Listed) (line count v : ℕ) → new ≡ added d (home_code d.frame line v (home_in d.frame.variables v) (next d)) (home_types d.frame.variables v)
    → after_parameters new line count (suc v) ≡ after_parameters d line (suc count) v
parameter_adds d new line count v same =
    let f = d.frame in
    let home = home_in f.variables v in
    let here = home_registers f.variables home in
    let behind = parameters_registers f.variables count (suc v) in
    let at : next new ≡ next d + here = ap next same ∙ next_added d (home_code f line v home (next d)) (home_types f.variables v) ∙ ap (λ n. next d + n) (length-replicate here UnsignedLong) in
    adds_more d new (after_parameters new line count (suc v)) (home_code f line v home (next d)) (parameters_code f line count (suc v) (next d + here)) (home_types f.variables v) (replicate behind UnsignedLong) same
    (λ i. added new (parameters_code (same i).frame line count (suc v) (at i)) (replicate (parameters_registers (same i).frame.variables count (suc v)) UnsignedLong))
    ∙ ap (λ us. added d (parameters_code f line (suc count) v (next d)) us) (replicate-append-replicate here behind UnsignedLong)

-- those that are left, behind one
pub parameters_left : (d new : Listed) (all v line : ℕ) → v < all → new ≡ added d (home_code d.frame line v (home_in d.frame.variables v) (next d)) (home_types d.frame.variables v)
    → after_parameters new line (all - (v + 1)) (v + 1) ≡ after_parameters d line (all - v) v
parameters_left d new all v line lt same =
    let count : suc (all - (v + 1)) ≡ all - v = omega (arith, lt) in
    let at : v + 1 ≡ suc v = omega arith in
    (λ i. after_parameters new line (all - (v + 1)) (at i)) ∙ parameter_adds d new line (all - (v + 1)) v same ∙ (λ i. after_parameters d line (count i) v)

pub no_parameters : (d : Listed) (all v line : ℕ) → all ≤ v → after_parameters d line (all - v) v ≡ d
no_parameters d all v line past =
    let none : all - v ≡ 0 = omega (arith, past) in
    (λ i. after_parameters d line (none i) v) ∙ nothing_added d

-- ---- objects that live

pub living_left : (d new : Listed) (all v line : ℕ) → v < all → new ≡ living_one d line v → living_parameters new line (all - (v + 1)) (v + 1) ≡ living_parameters d line (all - v) v
living_left d new all v line lt same =
    let count : suc (all - (v + 1)) ≡ all - v = omega (arith, lt) in
    let at : v + 1 ≡ suc v = omega arith in
    (λ i. living_parameters new line (all - (v + 1)) (at i)) ∙ (λ i. living_parameters (same i) line (all - (v + 1)) (suc v)) ∙ (λ i. living_parameters d line (count i) v)

pub none_living : (d : Listed) (all v line : ℕ) → all ≤ v → living_parameters d line (all - v) v ≡ d
none_living d all v line past =
    let none : all - v ≡ 0 = omega (arith, past) in
    λ i. living_parameters d line (none i) v

-- how many they are
pub living_count : (d new : Listed) (items : Items) (before behind count : ℕ) → new ≡ living d items → before ≡ length d.marks → behind ≡ length new.marks → count ≡ behind - before
    → count ≡ alive_count d.frame.variables items
living_count d new items before behind count same is_before is_behind is_count =
    omega (arith, is_count, is_before, is_behind, ap (λ (e : Listed). length e.marks) same, alive_length d.frame.variables items d.marks)

pub living_parameter_count : (d new : Listed) (line all before behind count : ℕ) → new ≡ living_parameters d line all 0 → before ≡ length d.marks → behind ≡ length new.marks → count ≡ behind - before
    → count ≡ parameter_count d.frame.variables all 0
living_parameter_count d new line all before behind count same is_before is_behind is_count =
    omega (arith, is_count, is_before, is_behind, ap (λ (e : Listed). length e.marks) same, parameters_length d.frame.variables line all 0 d.marks)

-- ---- objects that die

pub left_by : (d d1 new : Listed) (count r : ℕ) → d1 ≡ added d [] (death_types d.frame.variables) → r ≡ next d → new ≡ added d1 (deaths_of d1.frame d1.marks count r) []
    → new ≡ added d (deaths_of d.frame d.marks count (next d)) (death_types d.frame.variables)
left_by d d1 new count r first is_r second =
    adds_more d d1 new [] (deaths_of d.frame d.marks count (next d)) (death_types d.frame.variables) [] first
    (second ∙ (λ i. added d1 (deaths_of (first i).frame (first i).marks count (is_r i)) []))
    ∙ (λ i. added d (deaths_of d.frame d.marks count (next d)) (append-nil (death_types d.frame.variables) i))

pub left_to : (d d1 new : Listed) (l r : ℕ) → d1 ≡ added d [] (death_types d.frame.variables) → r ≡ next d → new ≡ added d1 (deaths_to d1.frame d1.marks l r) []
    → new ≡ added d (deaths_to d.frame d.marks l (next d)) (death_types d.frame.variables)
left_to d d1 new l r first is_r second =
    adds_more d d1 new [] (deaths_to d.frame d.marks l (next d)) (death_types d.frame.variables) [] first
    (second ∙ (λ i. added d1 (deaths_to (first i).frame (first i).marks l (is_r i)) []))
    ∙ (λ i. added d (deaths_to d.frame d.marks l (next d)) (append-nil (death_types d.frame.variables) i))
