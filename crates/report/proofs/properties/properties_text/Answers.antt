use Rattle.std.proofs.Common.{ℕ, List, ◌++◌, ap, sym, ◌∙◌}
use Rattle.std.specs.List.{flat_map}
use Rattle.report.specs.Properties.{told_of, property_line}
use Rattle.report.proofs.Joining.{flat_map_over}
use Rattle.report.proofs.properties.properties_text.Goals as goal

pub returns : goal.returns
returns c =
    c.in_ok-push_properties.ensures
    ∙ ap (λ (z : List ℕ). z ++ flat_map (λ p. property_line (told_of p)) c.args.properties.now) c.new-text.ensures
    ∙ sym (flat_map_over property_line told_of c.args.properties.now)
