-- What an instruction that fits has.
use Rattle.std.proofs.Common.{◌≡◌, ℕ, ◌≤◌, nat_lt, Bool, true, ◌&&◌, List, length, Option, Some, None, sym, ap, ◌∙◌, subst, arith}
use Rattle.std.specs.Prelude.{nat_le, slice_index_or}
use Rattle.std.proofs.lemmas.Bool.Decides.{nat_tests}
use Rattle.c_types.specs.declared.integers.IntegerType.{IntegerType}
use Rattle.c_types.specs.declared.integers.IntegerType.TheVariants as types
use Rattle.c_types.specs.Integers.{width}
use Rattle.goto_prog.specs.declared.code.Condition.{Condition}
use Rattle.goto_prog.specs.declared.code.Operation.{Operation}
use Rattle.goto_prog.specs.declared.code.Operation.TheVariants as operations
use Rattle.goto_prog.specs.Fitting.{is_there, is_pointer, check_fits, operation_fits, is_some_block}
use Rattle.goto_prog.specs.Running.{is_calculation, is_exchange}
use Rattle.goto_prog.proofs.Registers.{both}
use Rattle.goto_prog.proofs.Exchanges.{exchange_fits}
use Rattle.goto_prog.proofs.Stepping.{calculation_fits}

test_within : (m n : ℕ) → nat_le m n ≡ true → m ≤ n
test_within m n h = grind (arith, nat_tests)

module _ (ts : List IntegerType) (ss : List ℕ) (k : ℕ) (o : Operation) (fits : operation_fits ts ss k o ≡ true) where
  pub calculation_here : is_calculation o ≡ true → operation_fits ts ss 0 o ≡ true
  calculation_here calculates = calculation_fits ts ss k o calculates fits

  fits_as : (p : Operation) → o ≡ p → operation_fits ts ss k p ≡ true
  fits_as p is = subst (λ (q : Operation). operation_fits ts ss k q ≡ true) is fits

  pub check_here : (c : Condition) → o ≡ operations.Check c → check_fits ts c ≡ true
  check_here c is = fits_as (operations.Check c) is

  pub assert_here : (a : ℕ) → o ≡ operations.Assert a → is_there ts a ≡ true
  assert_here a is = fits_as (operations.Assert a) is

  pub assume_here : (a : ℕ) → o ≡ operations.Assume a → is_there ts a ≡ true
  assume_here a is = fits_as (operations.Assume a) is

  pub skip_here : (n : ℕ) → o ≡ operations.Skip n → n ≤ k
  skip_here n is = test_within n k (fits_as (operations.Skip n) is)

  pub zero_there : (a n : ℕ) → o ≡ operations.SkipIfZero a n → is_there ts a ≡ true
  zero_there a n is = (both (is_there ts a) (nat_le n k) (fits_as (operations.SkipIfZero a n) is)).0

  pub zero_here : (a n : ℕ) → o ≡ operations.SkipIfZero a n → n ≤ k
  zero_here a n is = test_within n k (both (is_there ts a) (nat_le n k) (fits_as (operations.SkipIfZero a n) is)).1

  pub value_here : (v : Option ℕ) → o ≡ operations.Return v → is_some_block ss v ≡ true
  value_here v is = fits_as (operations.Return v) is

  pub exchange_here : is_exchange o ≡ true → operation_fits ts ss 0 o ≡ true
  exchange_here h = exchange_fits ts ss k o h fits

  pub fill_here : (b q : ℕ) → o ≡ operations.Fill b q → nat_lt b (length ss) ≡ true
  fill_here b q is = (both (nat_lt b (length ss)) (is_pointer ts q) (fits_as (operations.Fill b q) is)).0

  pub fill_count_here : (b q : ℕ) → o ≡ operations.Fill b q → is_pointer ts q ≡ true
  fill_count_here b q is = (both (nat_lt b (length ss)) (is_pointer ts q) (fits_as (operations.Fill b q) is)).1
