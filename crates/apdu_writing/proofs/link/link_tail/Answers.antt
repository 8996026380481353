-- The profiles of a BST, the configuration of a VST.
-- Assumes nothing.
use borrow.Enum.Refused.{opened}
use Rattle.apdu_writing.proofs.Links.{is_bst, is_vst, is_other}
use Rattle.apdu_writing.proofs.link.link_tail.Goals as goal

pub returns-in-Bst : goal.returns-in-Bst
returns-in-Bst c = is_bst c.in-Bst.is c.ids.ensures

pub returns-in-Vst : goal.returns-in-Vst
returns-in-Vst c = is_vst c.in-Vst.is c.configuration.ensures

pub returns-in_default : goal.returns-in_default
returns-in_default c = is_other {m = c.args.m} (opened c.in_default.in_default-own.keys3)
