-- What one tree puts behind others, where the code has its parts in memory.
use Rattle.std.proofs.Common.{◌≡◌, ◌∙◌, ℕ, Bool, List, sym, ap, Box, Vec, Option, [], ◌∷◌, refl}
use Rattle.std.specs.Global.{Global}
use Rattle.c_tree.specs.declared.expr.Name.{Name}
use Rattle.c_tree.specs.declared.expr.Expr.{Expr, Call, Cast, SizeofType}
use Rattle.c_tree.specs.declared.expr.TypeName.{TypeName}
use Rattle.c_tree.specs.declared.expr.Declarator.{Declarator}
use Rattle.c_tree.specs.declared.expr.DeclaratorCore.{DeclaratorCore, Inside}
use Rattle.c_tree.specs.declared.expr.ArraySuffix.{ArraySuffix}
use Rattle.c_tree.specs.declared.declaration.RecordKind.{RecordKind}
use Rattle.c_tree.specs.declared.declaration.Specifier.{Specifier, Record}
use Rattle.c_tree.specs.declared.declaration.MemberDeclaration.{MemberDeclaration}
use Rattle.c_tree.specs.declared.declaration.FullDeclarator.{FullDeclarator, Unnamed, Named}
use Rattle.c_tree.specs.declared.declaration.FullDeclarator as fulls
use Rattle.c_tree.specs.declared.declaration.DeclaratorSuffix.{DeclaratorSuffix}
use Rattle.c_tree.specs.declared.declaration.DeclaratorSuffix as suffixes
use Rattle.c_tree.specs.declared.declaration.Parameter.{Parameter}
use Rattle.c_tree.specs.declared.declaration.Initializer.{Initializer}
use Rattle.c_tree.specs.declared.declaration.Initializer as initializers
use Rattle.c_tree.specs.declared.statement.Stmt.{Stmt, Block}
use Rattle.c_tree.specs.declared.statement.Item.{Item}
use Rattle.c_tree.specs.Tree.{view, views_of, view_core, view_declarator, suffixes_of, Declared, behind_pointers}
use Rattle.c_tree.specs.Declarations.{full_end, view_part, members_of, view_full, view_full_suffix, full_suffixes_of, parameters_of, view_initializer, initials_of, Full, full_behind, name_of}
use Rattle.c_tree.specs.Statements.{view_statement, items_of}
use Rattle.c_tree.proofs.Views.{view_call, view_cast, view_sizeof_type}
use Rattle.c_tree.proofs.Views.{view_inside as view_core_inside}
use Rattle.c_tree.proofs.DeclarationViews.{view_record, view_unnamed, view_named, view_inside, view_takes, view_braces}
use Rattle.c_tree.proofs.StatementViews.{view_block}
use Rattle.properties.specs.declared.spots.Spot.{Spot}
use Rattle.properties.specs.Spots.{with_called, with_tree, with_trees, with_declared, with_suffixes, with_part, with_members, with_full, with_full_suffixes, with_parameters, with_initial, with_initials, with_statement, with_items}
use Rattle.c_tree.specs.declared.expr.PointerMark.{PointerMark}

-- pointers have no assertions
pub behind_declared : (old : List Spot) (ps : List PointerMark) (d : Declared) → with_declared old (behind_pointers ps d) ≡ with_declared old d
behind_declared old [] d = refl
behind_declared old (p ∷ ps) d = behind_declared old ps d

pub behind_full : (old : List Spot) (ps : List PointerMark) (d : Full) → with_full old (full_behind ps d) ≡ with_full old d
behind_full old [] d = refl
behind_full old (p ∷ ps) d = behind_full old ps d

pub behind_name : (ps : List PointerMark) (d : Full) → name_of (full_behind ps d) ≡ name_of d
behind_name [] d = refl
behind_name (p ∷ ps) d = behind_name ps d

pub call_arm : (old m1 m2 new : List Spot) (f : Box Expr Global) (args : Vec Expr Global) (e x y : Expr) (es : List Expr) → e ≡ Call f args → m1 ≡ with_called old (view x) → x ≡ f.value
    → m2 ≡ with_tree m1 (view y) → y ≡ f.value → new ≡ with_trees m2 (views_of es) → es ≡ args.items → new ≡ with_tree old (view e)
call_arm old m1 m2 new f args e x y es is one first two second three third =
    let a = one ∙ ap (λ (z : Expr). with_called old (view z)) first in
    let b = two ∙ ap (λ (z : Expr). with_tree m1 (view z)) second ∙ ap (λ (m : List Spot). with_tree m (view f.value)) a in
    three ∙ ap (λ (zs : List Expr). with_trees m2 (views_of zs)) third ∙ ap (λ (m : List Spot). with_trees m (views_of args.items)) b
    ∙ sym (ap (λ (z : Expr). with_tree old (view z)) is ∙ ap (with_tree old) (view_call f args))

pub cast_arm : (old m1 new : List Spot) (line : ℕ) (t : Box TypeName Global) (o : Box Expr Global) (e x : Expr) (n : TypeName) → e ≡ Cast line t o → m1 ≡ with_declared old (view_declarator n.declarator) → n ≡ t.value
    → new ≡ with_tree m1 (view x) → x ≡ o.value → new ≡ with_tree old (view e)
cast_arm old m1 new line t o e x n is one first two second =
    let a = one ∙ ap (λ (z : TypeName). with_declared old (view_declarator z.declarator)) first in
    two ∙ ap (λ (z : Expr). with_tree m1 (view z)) second ∙ ap (λ (m : List Spot). with_tree m (view o.value)) a
    ∙ sym (ap (λ (z : Expr). with_tree old (view z)) is ∙ ap (with_tree old) (view_cast line t o))

pub sizeof_arm : (old new : List Spot) (line : ℕ) (t : Box TypeName Global) (e : Expr) (n : TypeName) → e ≡ SizeofType line t → new ≡ with_declared old (view_declarator n.declarator) → n ≡ t.value → new ≡ with_tree old (view e)
sizeof_arm old new line t e n is one first =
    one ∙ ap (λ (z : TypeName). with_declared old (view_declarator z.declarator)) first
    ∙ sym (ap (λ (z : Expr). with_tree old (view z)) is ∙ ap (with_tree old) (view_sizeof_type line t))

pub inside_arm : (old m1 new : List Spot) (line : ℕ) (inner : Box Declarator Global) (d x : Declarator) (ss : List ArraySuffix) → d.core ≡ Inside line inner → m1 ≡ with_declared old (view_declarator x) → x ≡ inner.value
    → new ≡ with_suffixes m1 (suffixes_of ss) → ss ≡ d.suffixes.items → new ≡ with_declared old (view_core d.core (suffixes_of d.suffixes.items))
inside_arm old m1 new line inner d x ss is one first two second =
    let a = one ∙ ap (λ (z : Declarator). with_declared old (view_declarator z)) first in
    two ∙ ap (λ (zs : List ArraySuffix). with_suffixes m1 (suffixes_of zs)) second ∙ ap (λ (m : List Spot). with_suffixes m (suffixes_of d.suffixes.items)) a
    ∙ sym (ap (λ (core : DeclaratorCore). with_declared old (view_core core (suffixes_of d.suffixes.items))) is ∙ ap (with_declared old) (view_core_inside line inner (suffixes_of d.suffixes.items)))

pub record_arm : (old new : List Spot) (line : ℕ) (kind : RecordKind) (tag : Option Name) (ms : Vec MemberDeclaration Global) (s : Specifier) (xs : List MemberDeclaration) → s ≡ Record line kind tag ms
    → new ≡ with_members old (members_of xs) → xs ≡ ms.items → new ≡ with_part old (view_part s)
record_arm old new line kind tag ms s xs is one first =
    one ∙ ap (λ (zs : List MemberDeclaration). with_members old (members_of zs)) first
    ∙ sym (ap (λ (z : Specifier). with_part old (view_part z)) is ∙ ap (with_part old) (view_record line kind tag ms))

pub unnamed_arm : (old new : List Spot) (ps : Vec PointerMark Global) (ss : Vec DeclaratorSuffix Global) (d : FullDeclarator) (xs : List DeclaratorSuffix) → d ≡ Unnamed ps ss → new ≡ with_full_suffixes old (full_suffixes_of xs) → xs ≡ ss.items → new ≡ with_full old (view_full d)
unnamed_arm old new ps ss d xs is one first =
    one ∙ ap (λ (zs : List DeclaratorSuffix). with_full_suffixes old (full_suffixes_of zs)) first
    ∙ sym (ap (λ (z : FullDeclarator). with_full old (view_full z)) is ∙ ap (with_full old) (view_unnamed ps ss) ∙ behind_full old ps.items _)

pub named_arm : (old new : List Spot) (ps : Vec PointerMark Global) (line : ℕ) (n : Name) (ss : Vec DeclaratorSuffix Global) (d : FullDeclarator) (xs : List DeclaratorSuffix) → d ≡ Named ps line n ss → new ≡ with_full_suffixes old (full_suffixes_of xs) → xs ≡ ss.items
    → new ≡ with_full old (view_full d)
named_arm old new ps line n ss d xs is one first =
    one ∙ ap (λ (zs : List DeclaratorSuffix). with_full_suffixes old (full_suffixes_of zs)) first
    ∙ sym (ap (λ (z : FullDeclarator). with_full old (view_full z)) is ∙ ap (with_full old) (view_named ps line n ss) ∙ behind_full old ps.items _)

pub full_inside_arm : (old m1 new : List Spot) (ps : Vec PointerMark Global) (line : ℕ) (inner : Box FullDeclarator Global) (ss : Vec DeclaratorSuffix Global) (d x : FullDeclarator) (xs : List DeclaratorSuffix) → d ≡ fulls.Inside ps line inner ss
    → m1 ≡ with_full old (view_full x) → x ≡ inner.value → new ≡ with_full_suffixes m1 (full_suffixes_of xs) → xs ≡ ss.items → new ≡ with_full old (view_full d)
full_inside_arm old m1 new ps line inner ss d x xs is one first two second =
    let a = one ∙ ap (λ (z : FullDeclarator). with_full old (view_full z)) first in
    two ∙ ap (λ (zs : List DeclaratorSuffix). with_full_suffixes m1 (full_suffixes_of zs)) second ∙ ap (λ (m : List Spot). with_full_suffixes m (full_suffixes_of ss.items)) a
    ∙ sym (ap (λ (z : FullDeclarator). with_full old (view_full z)) is ∙ ap (with_full old) (view_inside ps line inner ss) ∙ behind_full old ps.items _)

pub parameters_arm : (old new : List Spot) (line : ℕ) (ps : Vec Parameter Global) (variadic : Bool) (s : DeclaratorSuffix) (xs : List Parameter) → s ≡ suffixes.Parameters line ps variadic → new ≡ with_parameters old (parameters_of xs) → xs ≡ ps.items
    → new ≡ with_full_suffixes old (view_full_suffix s full_end)
parameters_arm old new line ps variadic s xs is one first =
    one ∙ ap (λ (zs : List Parameter). with_parameters old (parameters_of zs)) first
    ∙ sym (ap (λ (z : DeclaratorSuffix). with_full_suffixes old (view_full_suffix z full_end)) is ∙ ap (with_full_suffixes old) (view_takes line ps variadic full_end))

pub braces_arm : (old new : List Spot) (line : ℕ) (is : Vec Initializer Global) (i : Initializer) (xs : List Initializer) → i ≡ initializers.List line is → new ≡ with_initials old (initials_of xs) → xs ≡ is.items → new ≡ with_initial old (view_initializer i)
braces_arm old new line is i xs same one first =
    one ∙ ap (λ (zs : List Initializer). with_initials old (initials_of zs)) first
    ∙ sym (ap (λ (z : Initializer). with_initial old (view_initializer z)) same ∙ ap (with_initial old) (view_braces line is))

pub block_arm : (old new : List Spot) (line : ℕ) (is : Vec Item Global) (s : Stmt) (xs : List Item) → s ≡ Block line is → new ≡ with_items old (items_of xs) → xs ≡ is.items → new ≡ with_statement old (view_statement s)
block_arm old new line is s xs same one first =
    one ∙ ap (λ (zs : List Item). with_items old (items_of zs)) first
    ∙ sym (ap (λ (z : Stmt). with_statement old (view_statement z)) same ∙ ap (with_statement old) (view_block line is))
