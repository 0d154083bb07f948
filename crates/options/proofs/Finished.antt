-- What the getters of clap tell of the rows at the end.
use Rattle.std.proofs.Common.{◌≡◌, ◌∙◌, ◌||◌, ◌&&◌, Bool, cond, true, false, not, refl, sym, ap, ap₂, subst, true≢false, arith, List, [], ◌∷◌, ◌++◌, fold, find, Option, Some, None, is_some, option_and_then, slice_get, codes, bytes_eq}
use Rattle.std.proofs.lemmas.Bool.Decides.{nat_tests}
use Rattle.std.proofs.lemmas.Slice.Eq.{bytes_eq-Decides}
use Rattle.clap.specs.Walk.{Row, Rule, Text, first_of, has_row, is_empty, one_of, reading_by, row_text, default_rows, more_values, with_default}
use Rattle.clap.specs.declared.parser.matches.ValueSource.TheVariants.{DefaultValue}
use Rattle.options.specs.Table.{Kind, valued, flag, kind_of_option}
use Rattle.options.specs.Words.{Given, given, Reads, end, apart, joined, alone, file, stop, stop_file, value_given, is_given, file_name}
use Rattle.options.proofs.Built.{rules}
use Rattle.options.proofs.Known.{some_is}
use Rattle.options.proofs.Rows.{at_end, is_given_row, row_for, rows_for}

abbrev row_of_id : Text → List Row → Option Row
row_of_id id rows = find (λ r. bytes_eq r.id id) rows

abbrev default_row : Rule → Row
default_row a = record { id = a.id; values = a.defaults; count = None; source = Some DefaultValue; reading = reading_by a }

-- the row by default of an id that has none
abbrev pub default_of_id : Text → List Rule → Option Row
default_of_id id [] = None
default_of_id id (a ∷ rest) = cond (bytes_eq a.id id && not (is_empty a.defaults)) (Some (default_row a)) (default_of_id id rest)

-- ---- a row at the end

has_more : (id : Text) (rows : List Row) (r : Row) → has_row id (rows ++ r ∷ []) ≡ (has_row id rows || bytes_eq r.id id)
has_more id [] r = go (bytes_eq r.id id)
  where
    go : (b : Bool) → (b || false) ≡ b
    go true = refl
    go false = refl
has_more id (x ∷ rows) r = go (bytes_eq x.id id) (has_more id rows r)
  where
    go : (b : Bool) → has_row id (rows ++ r ∷ []) ≡ (has_row id rows || bytes_eq r.id id) → (b || has_row id (rows ++ r ∷ [])) ≡ ((b || has_row id rows) || bytes_eq r.id id)
    go true ih = refl
    go false ih = ih

row_more : (id : Text) (rows : List Row) (r : Row) → row_of_id id (rows ++ r ∷ []) ≡ cond (has_row id rows) (row_of_id id rows) (cond (bytes_eq r.id id) (Some r) None)
row_more id [] r = refl
row_more id (x ∷ rows) r = go (bytes_eq x.id id) (row_more id rows r)
  where
    go : (b : Bool) → row_of_id id (rows ++ r ∷ []) ≡ cond (has_row id rows) (row_of_id id rows) (cond (bytes_eq r.id id) (Some r) None)
        → cond b (Some x) (row_of_id id (rows ++ r ∷ [])) ≡ cond (b || has_row id rows) (cond b (Some x) (row_of_id id rows)) (cond (bytes_eq r.id id) (Some r) None)
    go true ih = refl
    go false ih = ih

-- what one rule adds: nothing, or its row where its id has none
abbrev Adds : List Row → Rule → Bool → Bool → Type 0
Adds rows a true empty = with_default rows a ≡ rows
Adds rows a false true = with_default rows a ≡ rows
Adds rows a false false = with_default rows a ≡ rows ++ default_row a ∷ []

not_empty : (x : Text) (xs : List Text) → is_empty (x ∷ xs) ≡ false
not_empty x xs = grind (arith, nat_tests)

adds_rows : (rows : List Row) (a : Rule) → has_row a.id rows ≡ false → (x : Text) (xs : List Text) → a.defaults ≡ x ∷ xs → with_default rows a ≡ rows ++ default_row a ∷ []
adds_rows rows a e x xs d =
    ap₂ (λ (b : Bool) (ys : List Text). cond b rows (default_rows a.id (reading_by a) ys rows)) e d
    ∙ at_end a.id (more_values DefaultValue (x ∷ xs)) (record { id = a.id; values = x ∷ xs; count = None; source = Some DefaultValue; reading = reading_by a } ∷ []) rows e
    ∙ ap (λ (ys : List Text). rows ++ record { id = a.id; values = ys; count = None; source = Some DefaultValue; reading = reading_by a } ∷ []) (sym d)

adds : (rows : List Row) (a : Rule) → Adds rows a (has_row a.id rows) (is_empty a.defaults)
adds rows a = go (has_row a.id rows) refl a.defaults refl
  where
    go : (b : Bool) → has_row a.id rows ≡ b → (ds : List Text) → a.defaults ≡ ds → Adds rows a b (is_empty ds)
    go true e ds d = ap (λ (b : Bool). cond b rows (default_rows a.id (reading_by a) a.defaults rows)) e
    go false e [] d = ap₂ (λ (b : Bool) (xs : List Text). cond b rows (default_rows a.id (reading_by a) xs rows)) e d
    go false e (x ∷ xs) d = subst (λ (b : Bool). Adds rows a false b) (sym (not_empty x xs)) (adds_rows rows a e x xs d)

abbrev Keeps : List Rule → Text → Type 0
Keeps rs id = (rows : List Row) → has_row id rows ≡ true → row_of_id id (fold with_default rows rs) ≡ row_of_id id rows

abbrev Fills : List Rule → Text → Type 0
Fills rs id = (rows : List Row) → has_row id rows ≡ false → row_of_id id (fold with_default rows rs) ≡ default_of_id id rs

kept : (rs : List Rule) (id : Text) (rows : List Row) → has_row id rows ≡ true → row_of_id id (fold with_default rows rs) ≡ row_of_id id rows
kept [] id rows has = refl
kept (a ∷ rs) id rows has = go (has_row a.id rows) (is_empty a.defaults) (adds rows a) (kept rs id)
  where
    same : with_default rows a ≡ rows → Keeps rs id → row_of_id id (fold with_default (with_default rows a) rs) ≡ row_of_id id rows
    same e ih = ap (λ (xs : List Row). row_of_id id (fold with_default xs rs)) e ∙ ih rows has

    go : (b d : Bool) → Adds rows a b d → Keeps rs id → row_of_id id (fold with_default (with_default rows a) rs) ≡ row_of_id id rows
    go true d e ih = same e ih
    go false true e ih = same e ih
    go false false e ih =
        let more : has_row id (rows ++ default_row a ∷ []) ≡ true = has_more id rows (default_row a) ∙ ap (λ (b : Bool). b || bytes_eq a.id id) has in
        ap (λ (xs : List Row). row_of_id id (fold with_default xs rs)) e ∙ ih (rows ++ default_row a ∷ []) more
        ∙ row_more id rows (default_row a) ∙ ap (λ (b : Bool). cond b (row_of_id id rows) (cond (bytes_eq a.id id) (Some (default_row a)) None)) has

no_row_of : (id : Text) (rows : List Row) → has_row id rows ≡ false → row_of_id id rows ≡ None
no_row_of id [] none = refl
no_row_of id (x ∷ rows) none = go (bytes_eq x.id id) none (no_row_of id rows)
  where
    go : (b : Bool) → (b || has_row id rows) ≡ false → (has_row id rows ≡ false → row_of_id id rows ≡ None) → cond b (Some x) (row_of_id id rows) ≡ None
    go true e ih = absurd (true≢false e)
    go false e ih = ih e

filled : (rs : List Rule) (id : Text) (rows : List Row) → has_row id rows ≡ false → row_of_id id (fold with_default rows rs) ≡ default_of_id id rs
filled [] id rows none = no_row_of id rows none
filled (a ∷ rs) id rows none = go (has_row a.id rows) refl (is_empty a.defaults) (bytes_eq a.id id) (bytes_eq-Decides a.id id).0 refl (adds rows a) (filled rs id)
  where
    same : with_default rows a ≡ rows → Fills rs id → row_of_id id (fold with_default (with_default rows a) rs) ≡ default_of_id id rs
    same e ih = ap (λ (xs : List Row). row_of_id id (fold with_default xs rs)) e ∙ ih rows none

    go : (b : Bool) → has_row a.id rows ≡ b → (d t : Bool) → (bytes_eq a.id id ≡ true → a.id ≡ id) → bytes_eq a.id id ≡ t → Adds rows a b d → Fills rs id
        → row_of_id id (fold with_default (with_default rows a) rs) ≡ cond (t && not d) (Some (default_row a)) (default_of_id id rs)
    go true is d true eq t e ih = absurd (true≢false (sym is ∙ ap (λ (i : Text). has_row i rows) (eq t) ∙ none))
    go true is d false eq t e ih = same e ih
    go false is true true eq t e ih = same e ih
    go false is true false eq t e ih = same e ih
    go false is false true eq t e ih =
        let more : has_row id (rows ++ default_row a ∷ []) ≡ true = has_more id rows (default_row a) ∙ ap₂ (λ (b c : Bool). b || c) none t in
        ap (λ (xs : List Row). row_of_id id (fold with_default xs rs)) e ∙ kept rs id (rows ++ default_row a ∷ []) more
        ∙ row_more id rows (default_row a) ∙ ap₂ (λ (b c : Bool). cond b (row_of_id id rows) (cond c (Some (default_row a)) None)) none t
    go false is false false eq t e ih =
        let still : has_row id (rows ++ default_row a ∷ []) ≡ false = has_more id rows (default_row a) ∙ ap₂ (λ (b c : Bool). b || c) none t in
        ap (λ (xs : List Row). row_of_id id (fold with_default xs rs)) e ∙ ih (rows ++ default_row a ∷ []) still

-- ---- what is given

given_row : (name : Text) (gs : List Given) → option_and_then (λ (r : Row). slice_get r.values 0) (row_of_id name (rows_for gs)) ≡ value_given name gs
given_row name [] = refl
given_row name (g ∷ gs) = go (bytes_eq g.name name) (given_row name gs)
  where
    go : (b : Bool) → option_and_then (λ (r : Row). slice_get r.values 0) (row_of_id name (rows_for gs)) ≡ value_given name gs
        → option_and_then (λ (r : Row). slice_get r.values 0) (cond b (Some (row_for g)) (row_of_id name (rows_for gs))) ≡ cond b (Some g.value) (value_given name gs)
    go true ih = refl
    go false ih = ih

given_text : (name : Text) (gs : List Given) → option_and_then row_text (row_of_id name (rows_for gs)) ≡ value_given name gs
given_text name [] = refl
given_text name (g ∷ gs) = go (bytes_eq g.name name) (given_text name gs)
  where
    go : (b : Bool) → option_and_then row_text (row_of_id name (rows_for gs)) ≡ value_given name gs
        → option_and_then row_text (cond b (Some (row_for g)) (row_of_id name (rows_for gs))) ≡ cond b (Some g.value) (value_given name gs)
    go true ih = refl
    go false ih = ih

not_given : (o : Option Text) → is_some o ≡ false → o ≡ None
not_given None e = refl
not_given (Some x) e = absurd (true≢false e)

-- an option with a value, or FILE
pub value_told : (name : Text) (all : List Given) → default_of_id name rules ≡ None → first_of name (fold with_default (rows_for all) rules) ≡ value_given name all
value_told name all none = go (has_row name (rows_for all)) refl
  where
    go : (b : Bool) → has_row name (rows_for all) ≡ b → first_of name (fold with_default (rows_for all) rules) ≡ value_given name all
    go true e = ap (option_and_then (λ (r : Row). slice_get r.values 0)) (kept rules name (rows_for all) e) ∙ given_row name all
    go false e =
        ap (option_and_then (λ (r : Row). slice_get r.values 0)) (filled rules name (rows_for all) e ∙ none) ∙ sym (not_given (value_given name all) (sym (is_given_row name all) ∙ e))

-- ---- an option that stands alone

value_more : (name : Text) (gs : List Given) (g : Given) → value_given name (gs ++ g ∷ []) ≡ cond (is_given name gs) (value_given name gs) (cond (bytes_eq g.name name) (Some g.value) None)
value_more name [] g = refl
value_more name (x ∷ gs) g = go (bytes_eq x.name name) (value_more name gs g)
  where
    go : (b : Bool) → value_given name (gs ++ g ∷ []) ≡ cond (is_given name gs) (value_given name gs) (cond (bytes_eq g.name name) (Some g.value) None)
        → cond b (Some x.value) (value_given name (gs ++ g ∷ [])) ≡ cond (is_some (cond b (Some x.value) (value_given name gs))) (cond b (Some x.value) (value_given name gs)) (cond (bytes_eq g.name name) (Some g.value) None)
    go true ih = refl
    go false ih = ih

abbrev true_text : Text
true_text = codes "true"

abbrev AreTrue : Text → List Given → Type 0
AreTrue name gs = (v : Text) → value_given name gs ≡ Some v → v ≡ true_text

-- one more that has another name, or is `true`
true_more : (name : Text) (gs : List Given) (g : Given) → AreTrue name gs → (bytes_eq g.name name ≡ true → g.value ≡ true_text) → AreTrue name (gs ++ g ∷ [])
true_more name gs g all own v is = go (is_given name gs) (bytes_eq g.name name) own (all v) (sym (value_more name gs g) ∙ is)
  where
    go : (b t : Bool) → (t ≡ true → g.value ≡ true_text) → (value_given name gs ≡ Some v → v ≡ true_text) → cond b (value_given name gs) (cond t (Some g.value) None) ≡ Some v → v ≡ true_text
    go true t o a e = a e
    go false true o a e = sym (some_is g.value v e) ∙ o refl
    go false false o a e = absurd (true≢false (sym (ap (λ (o : Option Text). is_some o) e)))

kinds_differ : valued ≡ flag → ⊥
kinds_differ e = true≢false (ap is_valued e)
  where
    is_valued : Kind → Bool
    is_valued valued = true
    is_valued flag = false

pub stays_true : (name : Text) → kind_of_option name ≡ Some flag → (gs all : List Given) (words : List Text) → Reads gs words all → AreTrue name gs → AreTrue name all
stays_true name k gs _ _ (end _) h = h
stays_true name k gs all _ (apart _ _ own value words is e once r) h =
    stays_true name k (gs ++ given own value ∷ []) all words r (true_more name gs (given own value) h (λ t. absurd (kinds_differ (some_is valued flag (sym is ∙ ap kind_of_option ((bytes_eq-Decides own name).0 t) ∙ k)))))
stays_true name k gs all _ (joined _ _ own value words is once r) h =
    stays_true name k (gs ++ given own value ∷ []) all words r (true_more name gs (given own value) h (λ t. absurd (kinds_differ (some_is valued flag (sym is ∙ ap kind_of_option ((bytes_eq-Decides own name).0 t) ∙ k)))))
stays_true name k gs all _ (alone _ _ own words is once r) h = stays_true name k (gs ++ given own true_text ∷ []) all words r (true_more name gs (given own true_text) h (λ t. refl))
stays_true name k gs all _ (file _ _ word words e once r) h =
    stays_true name k (gs ++ given file_name word ∷ []) all words r (true_more name gs (given file_name word) h (λ t. absurd (true≢false (sym (ap (λ (o : Option Kind). is_some o) (ap kind_of_option ((bytes_eq-Decides file_name name).0 t) ∙ k))))))
stays_true name k gs _ _ (stop _) h = h
stays_true name k gs _ _ (stop_file _ word once) h =
    true_more name gs (given file_name word) h (λ t. absurd (true≢false (sym (ap (λ (o : Option Kind). is_some o) (ap kind_of_option ((bytes_eq-Decides file_name name).0 t) ∙ k)))))

pub flag_told : (name : Text) (all : List Given) (b : Bool) (row : Row) → default_of_id name rules ≡ Some row → row_text row ≡ Some (codes "false") → AreTrue name all
    → (one_of name (fold with_default (rows_for all) rules) ≡ Some true_text → b ≡ true) → (one_of name (fold with_default (rows_for all) rules) ≡ Some (codes "false") → b ≡ false) → b ≡ is_given name all
flag_told name all b row default text trues when_true when_false = go (has_row name (rows_for all)) refl
  where
    when : (o : Option Text) → value_given name all ≡ o → is_some o ≡ true → b ≡ true
    when None e h = absurd (true≢false (sym h))
    when (Some v) e h = when_true (ap (option_and_then row_text) (kept rules name (rows_for all) (is_given_row name all ∙ ap (λ (o : Option Text). is_some o) e)) ∙ given_text name all ∙ e ∙ ap Some (trues v e))

    go : (t : Bool) → has_row name (rows_for all) ≡ t → b ≡ is_given name all
    go true e = when (value_given name all) refl (sym (is_given_row name all) ∙ e) ∙ sym e ∙ is_given_row name all
    go false e = when_false (ap (option_and_then row_text) (filled rules name (rows_for all) e ∙ default) ∙ text) ∙ sym e ∙ is_given_row name all
