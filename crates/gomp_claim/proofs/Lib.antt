pub mod MemberRefutations
