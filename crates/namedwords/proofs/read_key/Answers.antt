-- `namedwords::read_key` meets its contract. Assumes nothing.
use Rattle.namedwords.proofs.Fields.{named_within, named_key, key_is}
use Rattle.namedwords.proofs.read_key.Goals as goal

pub piece_end-end-requires : goal.piece_end-end-requires
piece_end-end-requires c = named_within _ _ c.requires

pub key_of-requires : goal.key_of-requires
key_of-requires c = named_key _ _ c.requires c.piece_end-end.ensures

pub returns : goal.returns
returns c = key_is _ _ c.requires c.piece_end-end.ensures c.key_of.ensures
