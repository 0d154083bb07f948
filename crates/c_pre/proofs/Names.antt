-- The rests and the roots that are being replaced, as they stand in the code.
use Rattle.std.proofs.Common.{◌≡◌, List, [], ◌∷◌, ◌++◌, map, ap}
use Rattle.std.proofs.lemmas.List.{reverse-append}
use Rattle.c_pre.specs.declared.replacing.Rest.{Rest}
use Rattle.c_pre.specs.Waiting.{rest_of, rests_of}

pub rests_push : (rests : List Rest) (r : Rest) → rests_of (rests ++ r ∷ []) ≡ rest_of r ∷ rests_of rests
rests_push rests r = ap (λ (xs : List Rest). map rest_of xs) (reverse-append rests (r ∷ []))
