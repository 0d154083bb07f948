-- Whether code calls no function and returns nowhere, by one instruction more.
use Rattle.std.proofs.Common.{◌≡◌, ℕ, ◌+◌, ◌<◌, ◌≤◌, Bool, true, false, ◌&&◌, List, drop, length, get_or, sym, ap, ◌∙◌}
use Rattle.std.specs.List.{list_all}
use Rattle.std.proofs.lemmas.List.{drop_more, drop_all}
use Rattle.goto_prog.specs.declared.code.Instruction.{Instruction}
use Rattle.goto_prog.specs.UnrolledCode.{is_flat}

abbrev flat : List Instruction → Bool
flat code = list_all (λ (i : Instruction). is_flat i.operation) code

front : (code : List Instruction) (n : ℕ) (i : Instruction) → n < length code → i ≡ get_or code n i → flat (drop n code) ≡ (is_flat i.operation && flat (drop (n + 1) code))
front code n i within found = ap flat (drop_more code n i within) ∙ ap (λ (x : Instruction). is_flat x.operation && flat (drop (n + 1) code)) (sym found)

pub flat_later : (code : List Instruction) (n : ℕ) (i : Instruction) → n < length code → i ≡ get_or code n i → is_flat i.operation ≡ true → flat (drop n code) ≡ flat (drop (n + 1) code)
flat_later code n i within found is = front code n i within found ∙ (λ k. is k && flat (drop (n + 1) code))

pub not_flat : (code : List Instruction) (n : ℕ) (i : Instruction) → n < length code → i ≡ get_or code n i → is_flat i.operation ≡ false → flat (drop n code) ≡ false
not_flat code n i within found is = front code n i within found ∙ (λ k. is k && flat (drop (n + 1) code))

pub flat_whole : (code : List Instruction) (n : ℕ) → length code ≤ n → flat (drop n code) ≡ true
flat_whole code n past = ap flat (drop_all n code past)
