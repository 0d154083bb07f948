use Rattle.std.proofs.Common.{◌≡◌, ◌+◌, ◌^◌, ℕ, true, List, length, ap, sym, ◌∙◌, arith}
use Rattle.std.specs.Prelude.{◌&&◌, nat_le, nat_lt}
use Rattle.std.specs.List.{list_all}
use borrow.Author.Tests.{le-leb, lt-ltb}
use Rattle.core_tree.specs.declared.functions.Address.{Address}
use Rattle.core_tree.specs.Typed.{is_target}
use Rattle.c_scope.proofs.Variables.{and}
use Rattle.c_elab_flow.proofs.files.static_object.Goals as goal

pub returns-clause-fits : goal.returns-clause-fits
returns-clause-fits c =
    let size = c.args.size in
    let said = c.args.bytes.items in
    let bytes : list_all (λ b. nat_lt b 256) said ≡ true = ap (λ (xs : List ℕ). list_all (λ b. nat_lt b 256) xs) (sym c.deref.ensures.value) ∙ c.prove_bytes.ensures in
    let none : list_all (λ (a : Address). nat_le (a.at + 8) size && is_target 0 0 a.target) c.new.result.items ≡ true =
    ap (λ (xs : List Address). list_all (λ (a : Address). nat_le (a.at + 8) size && is_target 0 0 a.target) xs) c.new.ensures.items in
    and _ _ (and _ _ (and _ _ (lt-ltb size (2 ^ 31) (omega arith)) (le-leb (length said) size (omega arith))) bytes) none
