-- How many objects instructions make, where code is joined.
use Rattle.std.proofs.Common.{◌≡◌, ℕ, ◌+◌, ◌*◌, List, [], ◌∷◌, ◌++◌, refl, ap, ◌∙◌, arith}
use Rattle.goto_prog.specs.Allocations.{operation_allocations, nodes_allocations}
use Rattle.goto_prog.specs.declared.code.Instruction.{Instruction}
use Rattle.goto_prog.specs.declared.code.Operation.{Operation}
use Rattle.goto_prog.specs.declared.code.Operation.TheVariants as operations
use Rattle.goto_prog.specs.Nodes.{Nodes, done, plain, repeats}
use Rattle.goto_prog.specs.Structured.{Bounded, tests, round_count}
use Rattle.lowered_code.specs.Lowering.{plains}

-- a node of a tree counts no object itself
pub node : {m n : ℕ} → m ≡ n → m ≡ 0 + n
node h = omega (arith, h)

-- an object that is made last is counted first
pub one_first : (a b : ℕ) {m : ℕ} → m ≡ a + (b + 1) → m ≡ 1 + (a + b)
one_first a b h = omega (arith, h)

-- by how many a call of each function makes
module _ (calls : ℕ → ℕ) where
  -- with as many as come behind
  abbrev counted : Operation → ℕ → ℕ
  counted (operations.Call g first count into r) n = calls g + n
  counted (operations.Alloc r b size readonly heap) n = 1 + n
  counted _ n = n

  counted_is : (o : Operation) (n : ℕ) → operation_allocations calls o + n ≡ counted o n
  counted_is (operations.Call g first count into r) n = refl
  counted_is (operations.Alloc r b size readonly heap) n = refl
  counted_is _ n = omega arith

  abbrev pub made : List Instruction → ℕ
  made [] = 0
  made (i ∷ is) = counted i.operation (made is)

  made_first : (i : Instruction) (is : List Instruction) → made (i ∷ is) ≡ operation_allocations calls i.operation + made is
  made_first i is = let same = counted_is i.operation (made is) in omega (arith, same)

  pub joined : (xs ys : List Instruction) {a b : ℕ} → made xs ≡ a → made ys ≡ b → made (xs ++ ys) ≡ a + b
  joined [] ys h k = omega (arith, h, k)
  joined (x ∷ xs) ys {a = a} {b = b} h k =
      let all = made_first x (xs ++ ys) in
      let one = made_first x xs in
      let rest = joined xs ys refl k in
      by_parts (operation_allocations calls x.operation) (made xs) (made (xs ++ ys)) (made (x ∷ (xs ++ ys))) (made (x ∷ xs)) all one h rest
    where
      by_parts : (o m r n k : ℕ) → n ≡ o + r → k ≡ o + m → k ≡ a → r ≡ m + b → n ≡ a + b
      by_parts o m r n k all one h rest = omega (arith, all, one, h, rest)

  -- where the code behind makes none
  pub before_none : (xs ys : List Instruction) {a : ℕ} → made xs ≡ a → made ys ≡ 0 → made (xs ++ ys) ≡ a
  before_none xs ys {a = a} h k = joined xs ys h k ∙ plus_none a
    where
      plus_none : (a : ℕ) → a + 0 ≡ a
      plus_none a = omega arith

  -- where the code in front makes none
  pub behind_none : (xs ys : List Instruction) {b : ℕ} → made xs ≡ 0 → made ys ≡ b → made (xs ++ ys) ≡ b
  behind_none xs ys {b = b} h k = joined xs ys h k ∙ none_plus b
    where
      none_plus : (b : ℕ) → 0 + b ≡ b
      none_plus b = omega arith

  -- where the code behind is counted first
  pub swapped : (xs ys : List Instruction) {a b : ℕ} → made xs ≡ a → made ys ≡ b → made (xs ++ ys) ≡ b + a
  swapped xs ys {a = a} {b = b} h k = joined xs ys h k ∙ turned a b
    where
      turned : (a b : ℕ) → a + b ≡ b + a
      turned a b = omega arith

  -- ---- nodes, under bounds

  module _ (b : Bounded) where
    abbrev pub total : Nodes → ℕ
    total done = 0
    total (plain i rest) = counted i.operation (total rest)
    total (repeats line f n rotated body rest) = round_count rotated (tests b f n) * total body + total rest

    pub total_is : (nodes : Nodes) → nodes_allocations b calls nodes ≡ total nodes
    total_is done = refl
    total_is (plain i rest) = ap (λ n. operation_allocations calls i.operation + n) (total_is rest) ∙ counted_is i.operation (total rest)
    total_is (repeats line f n rotated body rest) = λ k. round_count rotated (tests b f n) * total_is body k + total_is rest k

    pub in_front : (is : List Instruction) (rest : Nodes) {m n : ℕ} → made is ≡ m → total rest ≡ n → total (plains is rest) ≡ m + n
    in_front [] rest h k = omega (arith, h, k)
    in_front (i ∷ is) rest {m = m} {n = n} h k =
        by_parts (operation_allocations calls i.operation) (made is) (total (plains is rest)) (made (i ∷ is)) (total (plains (i ∷ is) rest)) (made_first i is) h (counted_is i.operation (total (plains is rest))) (in_front is rest refl k)
      where
        by_parts : (o p r k t : ℕ) → k ≡ o + p → k ≡ m → o + r ≡ t → r ≡ p + n → t ≡ m + n
        by_parts o p r k t one h same rest = omega (arith, one, h, same, rest)
