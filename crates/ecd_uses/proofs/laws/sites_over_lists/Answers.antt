use Rattle.ecd_uses.proofs.Layers.{entry-sites, key-sites, type-sites, choice-sites, group-sites}
use Rattle.ecd_uses.proofs.laws.sites_over_lists.Goals as goal

pub returns : goal.returns
returns c = record { entry = entry-sites; key = key-sites; alts = type-sites; choice = choice-sites; group = group-sites }
