-- What is read has a token.
use Rattle.std.proofs.Common.{◌≡◌, ◌≤◌, ◌<◌, ℕ, List, ◌++◌, length, length-append, Bool, true, false, Some, refl, ap, ◌∙◌, arith}
use Rattle.c_token.specs.declared.token.Token.{Token}
use Rattle.c_tree.specs.Tree.{Tree}
use Rattle.c_tree.specs.Declarations.{Full, Parts}
use Rattle.c_tree.specs.Names.{Scope}
use Rattle.c_parse_expr.specs.inner.Reading.{reader}
use Rattle.c_parse_expr.proofs.Sound.{reads}
use Rattle.c_parse_expr.proofs.CompleteSteps.{first_token}
use Rattle.c_parse_parts.specs.inner.Reading.{parts_at, are_some, body_at, full_at}
use Rattle.c_parse_parts.proofs.SoundParts.{named_full, full_takes, body_takes, parts_take, some_parts}
use Rattle.c_parse_parts.proofs.Steps.{BeginsFull, opens_length, full_opens, IsWord}
use Rattle.c_parse_parts.proofs.CompleteParts.{parts_open}

shorter_by : (ts own rest : List Token) → ts ≡ own ++ rest → 0 < length own → length rest < length ts
shorter_by ts own rest e h = let f = ap (λ (xs : List Token). length xs) e ∙ length-append own rest in omega (arith, f, h)

pub full_shorter : (bytes : List ℕ) (names : Scope) (n : ℕ) (ts : List Token) (x : Full × List Token) → full_at bytes n false names ts ≡ Some x → length x.1 < length ts
full_shorter bytes names n ts x e =
    let d = full_takes bytes n false names ts x e in
    shorter_by ts d.own x.1 d.front (opens_length BeginsFull d.own (full_opens bytes x.0 d.own (named_full x.0 (d.well.1 refl)) d.spelled))

pub parts_shorter : (inner : Bool) (bytes : List ℕ) (names : Scope) (n : ℕ) (ts : List Token) (x : Parts × List Token) → parts_at inner bytes n (body_at bytes n) names ts ≡ Some x → are_some x.0 ≡ true → length x.1 < length ts
parts_shorter inner bytes names n ts x e some =
    let p = parts_take inner bytes n (body_at bytes n) (body_takes bytes n) names ts x e in
    shorter_by ts p.run.own x.1 p.run.front (opens_length IsWord p.run.own (parts_open bytes x.0 p.run.own (some_parts x.0 some) p.run.spelled))

pub reader_shorter : (bytes : List ℕ) (names : Scope) (n k : ℕ) (ts : List Token) (x : Tree × List Token) → k ≤ 15 → reader bytes names n k ts ≡ Some x → length x.1 < length ts
reader_shorter bytes names n k ts x h e =
    let s = reads bytes names n k ts x h e in
    let f = first_token bytes names x.0 s.own s.spelled s.well in
    shorter_by ts s.own x.1 s.front (let g = ap (λ (xs : List Token). length xs) f.whole in omega (arith, g))
