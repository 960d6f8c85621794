use Rattle.ecd_uses.proofs.Layers.{value-sites, named-sites, parenthesis-sites, map-sites, array-sites, unwrap-sites, enum-sites, enum_name-sites, tag-sites, hash-sites}
use Rattle.ecd_uses.proofs.laws.sites_of_forms.Goals as goal

pub returns : goal.returns
returns c = record {
  value = value-sites;
  named = named-sites;
  parenthesis = parenthesis-sites;
  map = map-sites;
  array = array-sites;
  unwrap = unwrap-sites;
  enumeration = enum-sites;
  enumerated_name = enum_name-sites;
  tag = tag-sites;
  hash = hash-sites;
}
