mod FolderFrames
mod NeverWords
