-- The rows of what is given.
use Rattle.std.proofs.Common.{◌≡◌, ◌∙◌, ◌||◌, Bool, cond, true, false, refl, sym, ap, true≢false, List, [], ◌∷◌, ◌++◌, map, Some, None, is_some, bytes_eq}
use Rattle.std.proofs.Common.{append-nil}
use Rattle.std.proofs.lemmas.List.{map-append}
use Rattle.clap.specs.Walk.{Row, Text, at_row, has_row, with_values, without, more_values}
use Rattle.clap.specs.declared.builder.value_parser.Reading.TheVariants as reading
use Rattle.clap.specs.declared.parser.matches.ValueSource.TheVariants.{CommandLine}
use Rattle.options.specs.Words.{Given, value_given, is_given}

abbrev pub row_for : Given → Row
row_for g = record { id = g.name; values = g.value ∷ []; count = None; source = Some CommandLine; reading = reading.AsWritten }

abbrev pub rows_for : List Given → List Row
rows_for gs = map row_for gs

pub is_given_row : (name : Text) (gs : List Given) → has_row name (rows_for gs) ≡ is_given name gs
is_given_row name [] = refl
is_given_row name (g ∷ gs) = go (bytes_eq g.name name) (is_given_row name gs)
  where
    go : (b : Bool) → has_row name (rows_for gs) ≡ is_given name gs → (b || has_row name (rows_for gs)) ≡ is_some (cond b (Some g.value) (value_given name gs))
    go true ih = refl
    go false ih = ih

pub given_more : (name : Text) (gs : List Given) (g : Given) → is_given name (gs ++ g ∷ []) ≡ (is_given name gs || bytes_eq g.name name)
given_more name [] g = go (bytes_eq g.name name)
  where
    go : (b : Bool) → is_some (cond b (Some g.value) None) ≡ b
    go true = refl
    go false = refl
given_more name (x ∷ gs) g = go (bytes_eq x.name name) (given_more name gs g)
  where
    go : (b : Bool) → is_given name (gs ++ g ∷ []) ≡ (is_given name gs || bytes_eq g.name name)
        → is_some (cond b (Some x.value) (value_given name (gs ++ g ∷ []))) ≡ (is_some (cond b (Some x.value) (value_given name gs)) || bytes_eq g.name name)
    go true ih = refl
    go false ih = ih

pub at_end : (id : Text) (change : Row → List Row) (missing rows : List Row) → has_row id rows ≡ false → at_row id change missing rows ≡ rows ++ missing
at_end id change missing [] none = refl
at_end id change missing (r ∷ rs) none = go (bytes_eq r.id id) none (at_end id change missing rs)
  where
    go : (b : Bool) → (b || has_row id rs) ≡ false → (has_row id rs ≡ false → at_row id change missing rs ≡ rs ++ missing) → cond b (change r ++ rs) (r ∷ at_row id change missing rs) ≡ r ∷ (rs ++ missing)
    go true e ih = absurd (true≢false e)
    go false e ih = ap (λ xs. r ∷ xs) (ih e)

-- a use of what wasn't there is a row at the end
pub added : (g : Given) (rows : List Row) → has_row g.name rows ≡ false
    → with_values g.name reading.AsWritten CommandLine (g.value ∷ []) (without g.name rows) ≡ rows ++ row_for g ∷ []
added g rows none =
    ap (λ xs. with_values g.name reading.AsWritten CommandLine (g.value ∷ []) xs) (at_end g.name (λ _. []) [] rows none ∙ append-nil rows)
    ∙ at_end g.name (more_values CommandLine (g.value ∷ [])) (row_for g ∷ []) rows none

pub rows_more : (gs : List Given) (g : Given) (rows : List Row) → rows ≡ rows_for gs → is_given g.name gs ≡ false
    → with_values g.name reading.AsWritten CommandLine (g.value ∷ []) (without g.name rows) ≡ rows_for (gs ++ g ∷ [])
rows_more gs g rows are none =
    added g rows (ap (has_row g.name) are ∙ is_given_row g.name gs ∙ none) ∙ ap (λ xs. xs ++ row_for g ∷ []) are ∙ sym (map-append row_for gs (g ∷ []))
