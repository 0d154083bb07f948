-- Reading items in a row, as long as another one begins.
use Rattle.std.specs.Prelude.{ℕ, zero, suc, List, [], ◌∷◌, Option, Some, None}
use Rattle.c_token.specs.declared.token.Token.{Token}

infixl 10 ◌>>=◌
abbrev pub ◌>>=◌ : {A B : Type 0} → Option A → (A → Option B) → Option B
(Some x) >>= f = f x
None >>= f = None

-- No item at the front, or one, with what is known behind it, and the tokens behind it. None: an item begins and isn't whole.
abbrev pub Item : Type 0 → Type 0 → Type 0
Item S A = S → List Token → Option (Option (A × S × List Token))

abbrev pub gone_on : {S A : Type 0} → (S → List Token → Option (List A × List Token)) → List Token → Option (A × S × List Token) → Option (List A × List Token)
gone_on go ts None = Some ([], ts)
gone_on go ts (Some x) = go x.1 x.2 >>= λ y. Some (x.0 ∷ y.0, y.1)

-- fewer than m items
unfoldable pub many_at : {S A : Type 0} → Item S A → ℕ → S → List Token → Option (List A × List Token)
many_at item zero s ts = None
many_at item (suc m) s ts = item s ts >>= gone_on (many_at item m) ts
