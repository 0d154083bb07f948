-- Broken rules: how typings follow one another, on which line one is broken, and what the code's answers say (C11 6.5, 6.7).
use Rattle.std.specs.Prelude.{◌≡◌, ℕ, Option, Some, None, Result, Ok, Err}
use Rattle.c_scope.specs.declared.fault.TypingError.{TypingError}
use Rattle.c_scope.specs.declared.fault.TypingError.TheVariants as errors
use Rattle.c_scope.specs.declared.fault.Broken.{Broken}
use Rattle.c_scope.specs.declared.fault.Broken.TheVariants as broken

infixl 10 ◌>>=◌
abbrev pub ◌>>=◌ : {A B E : Type 0} → Result A E → (A → Result B E) → Result B E
(Ok x) >>= f = f x
(Err e) >>= f = Err e

-- what a rule asks for
abbrev pub required : {A : Type 0} → ℕ → Option A → Result A ℕ
required rule (Some x) = Ok x
required rule None = Err rule

-- a broken rule, and the line of the first token of the node that breaks it
pub record Fault : Type 0 where
  pub line : ℕ
  pub rule : ℕ

abbrev pub fault : ℕ → ℕ → Fault
fault l r = record { line = l; rule = r }

-- a rule is broken on a line
abbrev pub on_line : {A : Type 0} → ℕ → Result A ℕ → Result A Fault
on_line line (Ok x) = Ok x
on_line line (Err rule) = Err (fault line rule)

-- ---- what the code's answers say

-- a fault told, unless memory ran out
abbrev pub Fails : {Y : Type 0} → TypingError → Result Y Fault → Type 0
Fails errors.Memory typing = Unit {0}
Fails (errors.Typing line rule) typing = typing ≡ Err (fault line rule)

abbrev pub Gives : {X Y : Type 0} → (X → Y) → Result X TypingError → Result Y Fault → Type 0
Gives view (Ok x) typing = typing ≡ Ok (view x)
Gives view (Err e) typing = Fails e typing

abbrev pub Breaks : {Y : Type 0} → Broken → Result Y ℕ → Type 0
Breaks broken.Memory node = Unit {0}
Breaks (broken.Rule rule) node = node ≡ Err rule

-- memory runs out only where no rule is broken
abbrev pub Unbroken : {Y : Type 0} → Broken → Result Y ℕ → Type 0
Unbroken broken.Memory (Ok y) = Unit {0}
Unbroken broken.Memory (Err rule) = ⊥
Unbroken (broken.Rule rule) node = Unit {0}

-- a rule is told, and never want of memory
abbrev pub IsRule : Broken → Type 0
IsRule broken.Memory = ⊥
IsRule (broken.Rule rule) = Unit {0}

abbrev pub IsTyping : TypingError → Type 0
IsTyping errors.Memory = ⊥
IsTyping (errors.Typing line rule) = Unit {0}

abbrev pub GivesNode : {X Y : Type 0} → (X → Y) → Result X Broken → Result Y ℕ → Type 0
GivesNode view (Ok x) node = node ≡ Ok (view x)
GivesNode view (Err e) node = Breaks e node
