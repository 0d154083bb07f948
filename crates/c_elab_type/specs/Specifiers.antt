-- Specifiers, the members and enumerators in them, and declarators with the parameters in them (C11 6.7, 6.7.2.1, 6.7.6).
use Rattle.std.specs.Prelude.{ℕ, ◌++◌, Bool, false, List, [], Option, Some, None, Result, Ok, Err}
use Rattle.c_tree.specs.declared.declaration.RecordKind.{RecordKind as TreeKind}
use Rattle.c_tree.specs.Tree.{Tree, first_line}
use Rattle.c_tree.specs.Declarations.{Enumerated, Part, type_part, storage, function, structure, enumeration, Parts, no_part, part, Members, no_member, members, Full, full_unnamed, full_named, full_inside, full_pointing, Fulls, no_full, full, FullSuffixes, full_end, full_bounded, full_open, full_empty, full_void, full_parameters, Parameters, no_parameter, parameter, Declarators, parts_line}
use Rattle.c_scope.specs.Scopes.{Named, Scoped, view_named}
use Rattle.c_scope.specs.Faults.{◌>>=◌, Fault, fault, on_line}
use Rattle.c_scope.specs.Types.{nothing_specified, with_storage, specified_type}
use Rattle.c_elab_expr.specs.Typing.{bound, operand}
use Rattle.c_elab_base.specs.declared.regions.Region.{Region}
use Rattle.c_elab_base.specs.declared.regions.Role.{Role}
use Rattle.c_elab_type.specs.declared.specifiers.Base.{Base}
use Rattle.c_elab_type.specs.Enumerations.{typed_enumerators}
use Rattle.c_elab_base.specs.Tags.{kind_of, opened, enumeration_closed}
use Rattle.c_elab_base.specs.Specifiers.{fields_out, Passed, lone_tag, with_type_part, fields_behind, named_parts, said_before, fields_within, Fields, ended, Derivations, parted, is_anonymous, counted_in_front, is_none, with_lone, with_named, inner_region, with_member, judged_parameter, role_of, Parted, are_several, with_members, called_in_front}

abbrev pub typed_enumeration : Region → Parted → Option (List ℕ) → List Enumerated → Result Parted Fault
typed_enumeration r p tag es = do
  s ← typed_enumerators r p.scope None es
  Ok (with_named p (enumeration_closed r s tag))

abbrev pub said_bound : Scoped → Tree → Result ℕ Fault
said_bound s e = bound (first_line e) (operand s e)

-- Specifiers from left to right; alone, without declarators behind them. The type that they say is judged behind them. Suffixes
-- of a declarator from its name on, the innermost parentheses first; those of parameters from left to right.
abbrev mutual
  pub typed_part : Region → Bool → Parted → Part → Result Parted Fault
  typed_part r alone p (type_part t) = Ok (with_type_part p t)
  typed_part r alone p (storage line class) = Ok (record p { specified = with_storage p.specified class })
  typed_part r alone p (function line w) = Ok p
  typed_part r alone p (structure line kind tag ms) =
      with_members p (opened r p.scope (kind_of kind) tag) (kind_of kind) (fields_out (is_anonymous alone tag) p.names
      (typed_members r (fields_within (is_anonymous alone tag) p.names (opened r p.scope (kind_of kind) tag).scope) ms))
  typed_part r alone p (enumeration line tag es) = typed_enumeration r p tag es

  pub typed_parts : Region → Bool → Parted → Parts → Result Parted Fault
  typed_parts r alone p no_part = Ok p
  typed_parts r alone p (part first rest) = do
    q ← typed_part r alone p first
    typed_parts r alone q rest

  pub typed_members : Region → Fields → Members → Result Fields Fault
  typed_members r f no_member = Ok f
  typed_members r f (members parts ds rest) = do
    p ← typed_parts r (is_none ds) (said_before f) parts
    n ← on_line (parts_line parts) (specified_type p.specified)
    g ← typed_fields r n (fields_behind f parts ds p n) ds
    typed_members r g rest

  -- members of one declaration
  pub typed_fields : Region → Named → Fields → Fulls → Result Fields Fault
  typed_fields r base f no_full = Ok f
  typed_fields r base f (full d ds) = do
    x ← typed_full f.scope d
    g ← with_member base (record f { scope = x.1 }) d x.0
    typed_fields r base g ds

  pub typed_full : Scoped → Full → Derivations
  typed_full s (full_unnamed suffixes) = typed_suffixes s suffixes
  typed_full s (full_named line n suffixes) = typed_suffixes s suffixes
  typed_full s (full_inside line d suffixes) = do
    inner ← typed_full s d
    outer ← typed_suffixes inner.1 suffixes
    Ok (inner.0 ++ outer.0, outer.1)
  typed_full s (full_pointing line qs d) = Err (fault line 7)

  pub typed_suffixes : Scoped → FullSuffixes → Derivations
  typed_suffixes s full_end = Ok ([], s)
  typed_suffixes s (full_bounded line e rest) = do
    n ← said_bound s e
    counted_in_front (Some n) (typed_suffixes s rest)
  typed_suffixes s (full_open line rest) = counted_in_front None (typed_suffixes s rest)
  typed_suffixes s (full_empty line rest) = called_in_front [] false (typed_suffixes s rest)
  typed_suffixes s (full_void line rest) = called_in_front [] false (typed_suffixes s rest)
  typed_suffixes s (full_parameters line ps variadic rest) = do
    p ← typed_parameters (inner_region s) (are_several ps) (record { parameters = []; scope = s }) ps
    called_in_front p.parameters variadic (typed_suffixes (ended s p.scope) rest)

  -- parameters, whose names are declared behind them
  pub typed_parameters : Region → Bool → Passed → Parameters → Result Passed Fault
  typed_parameters r several p no_parameter = Ok p
  typed_parameters r several p (parameter parts d rest) = do
    x ← named_parts parts (typed_parts r false (parted [] p.scope) parts)
    q ← judged_parameter r several p parts x.0 d (typed_full x.1 d)
    typed_parameters r several q rest

-- a struct or union in braces, and its members
abbrev pub typed_within : Region → Bool → List (List ℕ) → Scoped → Members → Result Fields Fault
typed_within r anonymous names s ms = fields_out anonymous names (typed_members r (fields_within anonymous names s) ms)

abbrev pub typed_record : Region → Bool → Parted → TreeKind → Option (List ℕ) → Members → Result Parted Fault
typed_record r alone p kind tag ms =
    with_members p (opened r p.scope (kind_of kind) tag) (kind_of kind) (typed_within r (is_anonymous alone tag) p.names (opened r p.scope (kind_of kind) tag).scope ms)

pub record Specification : Type 0 where
  pub type : Named
  pub role : Role
  pub scope : Scoped

abbrev pub typed_specifiers : Region → Scoped → Parts → Declarators → Result Specification Fault
typed_specifiers r s parts ds = do
  p ← typed_parts r false (record { specified = nothing_specified; names = []; scope = with_lone r s (lone_tag parts ds) }) parts
  t ← on_line (parts_line parts) (specified_type p.specified)
  Ok (record { type = t; role = role_of r.is_file p.specified.storage; scope = p.scope })

abbrev pub view_specification : Base → Scoped → Specification
view_specification b s = record { type = view_named b.named; role = b.role; scope = s }
